-- The row written is the list's past value at the index, and no other.
use Rattle.tables.proofs.Rows.{past_put}
use Rattle.tables.proofs.put_past.Goals as goal

pub returns : goal.returns
returns c = past_put _ _ _
