-- Beyond the horizon, or wanted beyond the mark of the page.
use Prim.Native.Nat.{◌≤◌, ◌/◌}
use mathlib.Core.Path.{◌≡◌, ◌∙◌, sym}
use native.Mathlib.Omega.{arith}
use lib.ListN.{length, get_or, get_or-eq_default}
use Rattle.tables.proofs.Living.{stays_last}
use Rattle.tables.proofs.dropping.stays.Goals as goal
use Rattle.tables.proofs.dropping.stays.Goals.{then-page-lt32, else-page-lt32}

pub returns : goal.returns
returns c =
    let a = c.args in
    let p = a.q.object / 16 in
    let o : 32 ≤ p → length a.marks.now ≤ p = λ h. omega arith in
    let m : c.if-page-lt32.marked ≡ get_or a.marks.now p 0 =
    (elim c.if-page-lt32.branch [ then-page-lt32 w ↦ w.marked-is | else-page-lt32 w ↦ w.marked-is ∙ sym (get_or-eq_default a.marks.now 0 (o w.if-page-lt32.false)) ]) in
    let e = sym c.beyond.ensures ∙ c.if-beyond.false in
    λ scope known i l. c.wants.ensures ∙ stays_last a.horizon known a.q scope a.marks.now a.s _ l i e m
