-- The row written is the list's entry at the one index, and is the entry read at the other.
use Rattle.tables.proofs.Rows.{pending_move}
use Rattle.tables.proofs.move_pending.Goals as goal

pub returns : goal.returns
returns c = pending_move _ _ _
