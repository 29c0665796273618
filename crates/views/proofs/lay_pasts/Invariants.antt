-- From the page's last row to its first, `out` is the past rows passed laid over what it was, and the next row is of the page.
use Prim.Native.Nat.{◌≤◌, ◌<◌, ◌-◌}
use mathlib.Core.Path.{◌≡◌}
use mathlib.Core.Bool.{true}
use lib.ListN.{length, take, drop}
use lib.Dec.{eqb}
use Rattle.model.specs.Store.{page_of}
use Rattle.tables.specs.Rows.{pasts, past_at}
use Rattle.views.proofs.Showing.{pasts_over}
use Rattle.views.proofs.lay_pasts.Given as goal

abbrev pub invariant-loop-i : goal.invariant-loop-i
invariant-loop-i l = (l.i ≤ l.n) × (length l.out ≡ 16) × (l.out ≡ pasts_over l.v (drop l.i (take l.n (pasts l.t))) l.initial.out)
    × (0 < l.i → eqb (page_of (past_at (pasts l.t) (l.i - 1)).object) l.v.page ≡ true)

abbrev pub decreases-loop-i : goal.decreases-loop-i
decreases-loop-i l = l.i
