-- An object that is marked settles it; at the end none was. The objects that are left, with the marks, give the answer of them all.
use mathlib.Core.Path.{◌≡◌}
use mathlib.Core.Bool.{Bool, false}
use lib.ListN.{drop}
use Rattle.model.specs.Lists.{twice_b}
use Rattle.rules.proofs.Marks.{again}
use Rattle.rules.proofs.met_again.Given as goal

abbrev pub itself : Bool → Bool
itself b = b

abbrev pub invariant-loop-object : goal.invariant-loop-object
invariant-loop-object l = again false itself l.seen (drop l.object-index l.objects) ≡ twice_b l.objects
