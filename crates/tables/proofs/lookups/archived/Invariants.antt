-- From the last row to the first, the page's mark by the copies passed is before the stamp.
use Prim.Native.Nat.{ℕ, ◌<◌}
use mathlib.Core.List.{List}
use Rattle.tables.specs.Rows.{copy_heads}
use Rattle.tables.proofs.Marks.{mark_from}
use Rattle.tables.proofs.lookups.archived.Given as goal

abbrev pub invariant-loop-i : goal.invariant-loop-i
invariant-loop-i l = ((words : List ℕ) → mark_from (copy_heads l.t) l.n l.i words l.page < l.stamp)
