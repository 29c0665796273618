-- A row that passes is one more.
use mathlib.Core.Path.{sym, ◌∙◌}
use native.Mathlib.Omega.{arith}
use Rattle.flushes.proofs.Turns.{count_yes, count_no}
use Rattle.flushes.proofs.rows.count.Goals as goal
use Rattle.flushes.proofs.rows.count.Goals.{then-test, else-test}

pub loop-number-preserved : goal.loop-number-preserved
loop-number-preserved g c =
    let a = c.args in
    let v = c.loop-number in
    let t = g.R.Row in
    let r = rw c.from.ensures at c.at.ensures in
    (elim c.if-test.branch [
      | then-test w ↦ rw w.n-is (
        omega arith,
        λ p q. count_yes t.blank p (t.rows a.t.now) a.numbers.now v.number-index v.n (v.invariant.1 p q) c.loop-number-test.true r (sym (q _ _ c.test.ensures) ∙ w.if-test.true),
      )
      | else-test w ↦ rw w.n-is (
        omega arith,
        λ p q. count_no t.blank p (t.rows a.t.now) a.numbers.now v.number-index v.n (v.invariant.1 p q) c.loop-number-test.true r (sym (q _ _ c.test.ensures) ∙ w.if-test.false),
      )
    ])
