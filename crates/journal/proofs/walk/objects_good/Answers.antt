-- One object is judged as it is read. Any other count is read into the front of an array, and the rules judge that front.
use mathlib.Core.Path.{sym, ◌∙◌}
use lib.ListN.{drop}
use Rattle.rules.proofs.Laws.{shaped_low}
use Rattle.journal.proofs.Walks.{one_fine}
use Rattle.journal.proofs.walk.objects_good.Goals as goal

pub returns-then-count-eq1 : goal.returns-then-count-eq1
returns-then-count-eq1 c = one_fine (drop 9 c.args.body.now) c.if-count-eq1.true c.get_be.ensures

pub named_twice-requires : goal.named_twice-requires
named_twice-requires c = shaped_low _ (sym c.objects_shaped.ensures ∙ c.if-objects_shaped.true)
