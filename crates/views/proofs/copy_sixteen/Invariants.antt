-- From the first word on, those passed are copied.
use mathlib.Core.Path.{◌≡◌}
use lib.ListN.{length, take, drop}
use Rattle.views.proofs.copy_sixteen.Given as goal

abbrev pub invariant-loop-k : goal.invariant-loop-k
invariant-loop-k l = (length l.out ≡ 16) × (take l.k l.out ≡ take l.k (drop l.at l.words))
