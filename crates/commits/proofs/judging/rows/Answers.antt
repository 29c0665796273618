-- An array behind a reference has the length of its type.
use borrow.Author.Rules.{rules}
use Rattle.tables.proofs.Rows.{pendings_length, pasts_length}
use Rattle.commits.proofs.judging.rows.Goals as goal

pub returns : goal.returns
returns c = (pendings_length _ _ (search rules), pasts_length _ _ (search rules))
