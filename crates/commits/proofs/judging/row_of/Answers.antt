-- `row_of` finds what a search of the entries finds.
use mathlib.Core.Path.{sym}
use Rattle.tables.specs.Lookups.{find_pending}
use Rattle.commits.proofs.Finding.{row_at, row_none}
use Rattle.commits.proofs.judging.row_of.Goals as goal

pub returns-then-row-lt128 : goal.returns-then-row-lt128
returns-then-row-lt128 c = λ es l x. sym (row_at (find_pending c.args.object es) (x.row_at c.args.object c.requires) c.if-row-lt128.true)

pub returns-else-row-lt128 : goal.returns-else-row-lt128
returns-else-row-lt128 c = λ es l x. sym (row_none c.args.object es l (x.row_at c.args.object c.requires) c.if-row-lt128.false)
