-- The row written is the list's entry at the index, and no other.
use Rattle.tables.proofs.Rows.{pending_put}
use Rattle.tables.proofs.put_pending.Goals as goal

pub returns : goal.returns
returns c = pending_put _ _ _
