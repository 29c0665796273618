-- The join of the numbers so far, with the rows that are left, tells whether some number is at a limit; at the end the join alone does.
use mathlib.Core.Path.{◌∙◌, sym}
use Rattle.damage.proofs.Joins.{join_start, join_more, join_end}
use Rattle.damage.proofs.joined.Goals as goal

pub loop-row-init : goal.loop-row-init
loop-row-init g c k = join_start c.args.rows.now k

pub loop-row-preserved : goal.loop-row-preserved
loop-row-preserved g c k = join_more c.args.rows.now k c.loop-row.row-index c.loop-row.all c.row-item.result c.row-item.is c.loop-row-test.true ∙ c.loop-row.invariant k

pub returns : goal.returns
returns g c k = sym (join_end c.args.rows.now k c.loop-row.row-index c.loop-row.all c.loop-row-test.false) ∙ c.loop-row.invariant k
