-- The row read is the list's entry at the index.
use Rattle.tables.proofs.Rows.{pending_read}
use Rattle.tables.proofs.pending_at.Goals as goal

pub returns : goal.returns
returns c = pending_read _ _
