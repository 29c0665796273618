-- From the last row to the first, `marks` holds each page's mark by the copies passed.
use Prim.Native.Nat.{ℕ}
use mathlib.Core.List.{List}
use mathlib.Core.Path.{◌≡◌}
use lib.ListN.{length, get_or}
use Rattle.tables.specs.Rows.{copy_heads}
use Rattle.tables.proofs.Marks.{mark_from}
use Rattle.tables.proofs.lookups.marks_of.Given as goal

abbrev pub invariant-loop-i : goal.invariant-loop-i
invariant-loop-i l = (length l.marks ≡ 32) × ((words : List ℕ) (p : ℕ) → get_or l.marks p 0 ≡ mark_from (copy_heads l.t) l.n l.i words p)
