-- From the page's last row to its first, `best` is the page's mark by the copies passed.
use Prim.Native.Nat.{ℕ, ◌≤◌, ◌<◌, ◌-◌}
use mathlib.Core.List.{List}
use mathlib.Core.Path.{◌≡◌}
use Rattle.tables.specs.Rows.{copy_heads, copy_head_at}
use Rattle.tables.proofs.Marks.{mark_from}
use Rattle.tables.proofs.lookups.mark_of.Given as goal

abbrev pub invariant-loop-i : goal.invariant-loop-i
invariant-loop-i l = (l.i ≤ l.n) × ((words : List ℕ) → l.best ≡ mark_from (copy_heads l.t) l.n l.i words l.page) × (0 < l.i → (copy_head_at (copy_heads l.t) (l.i - 1)).page ≡ l.page)

abbrev pub decreases-loop-i : goal.decreases-loop-i
decreases-loop-i l = l.i
