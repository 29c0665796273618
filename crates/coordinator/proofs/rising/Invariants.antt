-- The stamps rise where each is a rise. The loop's invariant: the stamps that are left, with the one before them and the rises so
-- far, give the answer of them all.
use Prim.Native.Nat.{◌≤◌}
use mathlib.Core.Path.{◌≡◌}
use Rattle.model.specs.Lists.{rising_from}
use Rattle.coordinator.proofs.States.{climbs}
use Rattle.coordinator.proofs.rising.Given as goal

abbrev pub invariant-loop-stamp : goal.invariant-loop-stamp
invariant-loop-stamp l = (l.rises ≤ l.stamp-index) × (climbs l.below l.rises l.stamps l.stamp-index ≡ rising_from 0 l.stamps)
