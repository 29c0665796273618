-- An array behind a reference has the length of its type.
use borrow.Author.Rules.{rules}
use Rattle.tables.proofs.Rows.{pasts_length}
use Rattle.gossips.proofs.rows.Goals as goal

pub returns : goal.returns
returns c = pasts_length _ _ (search rules)
