-- The join of the rows' numbers tells of them all.
use mathlib.Core.Path.{◌∙◌}
use Rattle.damage.proofs.Joins.{pending_is}
use Rattle.damage.proofs.pending_out.Goals as goal

pub returns : goal.returns
returns c = c.joined.ensures 9 ∙ pending_is 9 c.args.n c.args.t.now
