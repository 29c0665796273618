-- The snapshots known so far, with the stamps ahead, are all that become known.
use Prim.Native.Nat.{◌+◌}
use mathlib.Core.Path.{◌≡◌}
use mathlib.Core.List.{◌++◌}
use lib.Dec.{ltb}
use lib.ListN.{length, take, drop}
use Rattle.model.specs.Lists.{kept}
use Rattle.gossips.proofs.add_known.Given as goal

abbrev pub invariant-loop-stamp : goal.invariant-loop-stamp
invariant-loop-stamp l = (length l.snapshots ≡ 64) × (l.known ≡ l.n + l.stamp-index)
    × (take l.known l.snapshots ++ drop l.stamp-index (kept (ltb l.horizon) l.stamps) ≡ take l.n l.initial.snapshots ++ kept (ltb l.horizon) l.stamps)
