-- The numbers listed so far name the rows that pass; with those ahead they are all of them.
use Prim.Native.Nat.{ℕ, ◌≤◌, ◌<◌}
use mathlib.Core.List.{◌++◌}
use mathlib.Core.Path.{◌≡◌}
use lib.Dec.{eqb}
use lib.ListN.{length, take, drop, get_or}
use Rattle.model.specs.Lists.{kept}
use Rattle.model.specs.Store.{page_of}
use Rattle.shares.specs.Shares.{rows_at}
use Rattle.shares.proofs.number.Given as goal

abbrev pub invariant-loop-i : goal.invariant-loop-i
invariant-loop-i g l = (length l.numbers.items ≤ l.i) × ((j : ℕ) → j < length l.numbers.items → get_or l.numbers.items j 0 < l.n)
    × (rows_at g.R.Row.blank (g.R.Row.rows l.t) l.numbers.items ++ kept (λ r. eqb (page_of (g.R.Row.object_of r)) l.page) (drop l.i (take l.n (g.R.Row.rows l.t)))
    ≡ kept (λ r. eqb (page_of (g.R.Row.object_of r)) l.page) (take l.n (g.R.Row.rows l.t)))
