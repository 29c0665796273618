-- A row that passes puts its number behind the others.
use mathlib.Core.List.{[], ◌∷◌}
use mathlib.Core.Path.{ap, sym, ◌∙◌}
use native.Mathlib.Omega.{arith}
use lib.Dec.{eqb}
use lib.ListN.{take, length-append}
use borrow.Author.Tests.{eq-eqb, ne_eqb}
use Rattle.model.specs.Lists.{kept}
use Rattle.model.specs.Store.{page_of}
use Rattle.shares.proofs.Numbers.{inside_push, number_more, number_less}
use Rattle.shares.proofs.number.Goals as goal
use Rattle.shares.proofs.number.Goals.{then-object-page, else-object-page}

pub loop-i-preserved : goal.loop-i-preserved
loop-i-preserved g c =
    let a = c.args in
    let v = c.loop-i in
    let t = g.R.Row in
    let h = c.loop-i-test.true in
    let e = ap (λ o. eqb (page_of o) a.page) (sym c.object.ensures) in
    (elim c.if-object-page.branch [
      | then-object-page w ↦ rw (w.numbers-is, w.push.ensures) (
        omega (arith, length-append v.numbers.items (v.i ∷ [])),
        inside_push v.numbers.items v.i a.n v.invariant.1 h,
        number_more t.blank (λ r. eqb (page_of (t.object_of r)) a.page) (t.rows a.t.now) a.n v.i v.numbers.items {W = kept (λ r. eqb (page_of (t.object_of r)) a.page) (take a.n (t.rows a.t.now))} v.invariant.2 h (omega arith) c.at.ensures (e ∙ eq-eqb _ _ w.if-object-page.true),
      )
      | else-object-page w ↦ rw w.numbers-is (
        omega arith,
        v.invariant.1,
        number_less t.blank (λ r. eqb (page_of (t.object_of r)) a.page) (t.rows a.t.now) a.n v.i v.numbers.items {W = kept (λ r. eqb (page_of (t.object_of r)) a.page) (take a.n (t.rows a.t.now))} v.invariant.2 h (omega arith) c.at.ensures (e ∙ ne_eqb _ _ w.if-object-page.false),
      )
    ])
