-- The snapshots passed end with one at or before the time; the search ends before one beyond it, or with the last.
use Prim.Native.Nat.{◌-◌, ◌<◌, ◌≤◌}
use lib.ListN.{get_or}
use Rattle.tables.proofs.lookups.up_to.Given as goal

abbrev pub invariant-loop-k : goal.invariant-loop-k
invariant-loop-k l = 0 < l.k → get_or l.snapshots (l.k - 1) 0 ≤ l.time
