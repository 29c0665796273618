-- The snapshots found so far are the due ones up to the one at j, whatever the store whose dues the ages tell.
use mathlib.Core.Path.{sym, ◌∙◌}
use native.Mathlib.Omega.{arith}
use lib.ListN.{length-append}
use Rattle.flushes.proofs.Listing.{told_due, list_yes, list_no}
use Rattle.flushes.proofs.dues.find_dues.Goals as goal
use Rattle.flushes.proofs.dues.find_dues.Goals.{then-some_beyond, else-some_beyond}

pub loop-j-preserved : goal.loop-j-preserved
loop-j-preserved c = let v = c.loop-j in
    let a = c.args in
    let h = c.loop-j-test.true in
    let e = c.some_beyond.ensures in
    elim c.if-some_beyond.branch [
      | then-some_beyond w ↦
          rw (w.due-is, w.push.ensures) (
            simp length-append (omega arith),
            λ st p m n b k t.
                list_yes st p m a.snapshots.now n v.j v.due.items (v.invariant.1 st p m n b k t) (omega arith) (omega arith)
                (sym (told_due st p m a.snapshots.now n a.low a.high a.ages.now t v.j v.auto.j h e) ∙ w.if-some_beyond.true),
          )
      | else-some_beyond w ↦
          rw w.due-is (
            omega arith,
            λ st p m n b k t.
                list_no st p m a.snapshots.now n v.j v.due.items (v.invariant.1 st p m n b k t) (omega arith) (omega arith)
                (sym (told_due st p m a.snapshots.now n a.low a.high a.ages.now t v.j v.auto.j h e) ∙ w.if-some_beyond.false),
          )
    ]
