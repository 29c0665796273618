-- The row read is the list's past value at the index.
use Rattle.tables.proofs.Rows.{past_read}
use Rattle.tables.proofs.past_at.Goals as goal

pub returns : goal.returns
returns c = past_read _ _
