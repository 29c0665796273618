-- The join of the numbers so far, with the rows that are left, tells whether some number is at a limit.
use Prim.Native.Nat.{ℕ}
use mathlib.Core.Path.{◌≡◌}
use Rattle.model.specs.Lists.{any_b}
use Rattle.damage.proofs.Joins.{out_b, told}
use Rattle.damage.proofs.joined.Given as goal

abbrev pub invariant-loop-row : goal.invariant-loop-row
invariant-loop-row g l = (k : ℕ) → told l.rows k l.row-index l.all ≡ any_b (out_b k) l.rows
