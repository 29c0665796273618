-- The join of the rows' numbers tells of them all.
use mathlib.Core.Path.{◌∙◌}
use Rattle.damage.proofs.Joins.{past_is}
use Rattle.damage.proofs.past_out.Goals as goal

pub returns : goal.returns
returns c = c.joined.ensures 9 ∙ past_is 9 c.args.n c.args.t.now
