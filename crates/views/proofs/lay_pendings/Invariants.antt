-- From the first slot on, the words passed are those of the entries laid over what `out` was, and the others are as they were.
use mathlib.Core.Path.{◌≡◌}
use mathlib.Core.List.{◌++◌}
use lib.ListN.{length, take, drop}
use Rattle.tables.specs.Rows.{pendings}
use Rattle.views.proofs.Showing.{pendings_over}
use Rattle.views.proofs.lay_pendings.Given as goal

abbrev pub invariant-loop-k : goal.invariant-loop-k
invariant-loop-k l = (length l.out ≡ 16) × (l.out ≡ take l.k (pendings_over l.v (take l.n (pendings l.t)) l.initial.out) ++ drop l.k l.initial.out)
