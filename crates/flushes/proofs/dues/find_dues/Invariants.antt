-- The snapshots found so far are the due ones up to the one at j, whatever the store whose dues the ages tell.
use Prim.Native.Nat.{ℕ, ◌≤◌, ◌-◌}
use lib.ListN.{length, take}
use Rattle.model.specs.Store.{Store}
use Rattle.flushes.specs.Parts.{Telling, ListedTo}
use Rattle.flushes.proofs.dues.find_dues.Given as goal

abbrev pub invariant-loop-j : goal.invariant-loop-j
invariant-loop-j l = (length l.due.items ≤ l.j - l.low)
    × ((st : Store) (p m n : ℕ) → l.high ≤ n → n ≤ 64 → Telling st p m l.snapshots n l.low l.high l.ages → ListedTo st p m (take n l.snapshots) l.low l.j l.due.items)
