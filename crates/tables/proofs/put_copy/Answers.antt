-- The row written is the list's copy head at the index, and no other.
use Rattle.tables.proofs.Rows.{copy_put}
use Rattle.tables.proofs.put_copy.Goals as goal

pub returns : goal.returns
returns c = copy_put _ _ _
