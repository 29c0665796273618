-- The snapshots passed end with one at or before the time.
use Prim.Native.Nat.{◌-◌, ◌<◌, ◌≤◌}
use lib.ListN.{get_or}
use Rattle.tables.proofs.lookups.leap.Given as goal

abbrev pub invariant-loop-k : goal.invariant-loop-k
invariant-loop-k l = (l.k ≤ l.n) × (0 < l.k → get_or l.snapshots (l.k - 1) 0 ≤ l.time)

abbrev pub decreases-loop-k : goal.decreases-loop-k
decreases-loop-k l = l.n - l.k
