-- The row written is the list's entry at the index with another stamp and value, and no other.
use Rattle.tables.proofs.Rows.{pending_rewrite}
use Rattle.tables.proofs.rewrite_pending.Goals as goal

pub returns : goal.returns
returns c = pending_rewrite _ _ _ _
