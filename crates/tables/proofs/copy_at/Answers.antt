-- The row read is the list's copy head at the index.
use Rattle.tables.proofs.Rows.{copy_read}
use Rattle.tables.proofs.copy_at.Goals as goal

pub returns : goal.returns
returns c = copy_read _ _
