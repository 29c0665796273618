-- The join of the rows' numbers tells of them all.
use mathlib.Core.Path.{◌∙◌}
use Rattle.damage.proofs.Joins.{copies_is}
use Rattle.damage.proofs.copies_out.Goals as goal

pub returns : goal.returns
returns c words = c.joined.ensures 5 ∙ copies_is 5 c.args.n c.args.t.now words
