-- What is left of the zeros is as many as the slice is short of sixty-four.
use Rattle.std.proofs.lemmas.List.{drop-replicate}
use Rattle.reads.proofs.snapshot_rows.Goals as goal

pub returns : goal.returns
returns c = rw c.copy_from_slice.ensures.after (simp drop-replicate)
