-- The rows counted so far, with those that pass ahead, are those of all.
use Prim.Native.Nat.{◌≤◌, ◌+◌}
use mathlib.Core.Bool.{Bool}
use mathlib.Core.Path.{◌≡◌}
use lib.ListN.{length, drop}
use Rattle.model.specs.Lists.{kept}
use Rattle.shares.specs.Shares.{rows_at}
use Rattle.flushes.proofs.rows.count.Given as goal

abbrev pub invariant-loop-number : goal.invariant-loop-number
invariant-loop-number g l =
    let rows = rows_at g.R.Row.blank (g.R.Row.rows l.t) in
    (l.n ≤ l.number-index)
    × ((p : _ → Bool) → ((r : _) (b : Bool) → goal.F-post g l.test r b → b ≡ p r) → l.n + length (kept p (rows (drop l.number-index l.numbers))) ≡ length (kept p (rows l.numbers)))
