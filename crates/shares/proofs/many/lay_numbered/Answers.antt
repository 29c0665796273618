-- From the last of the numbered rows to the first, each page is those passed laid over what it was.
use Prim.Native.Nat.{◌-◌}
use native.Mathlib.Omega.{arith}
use lib.ListN.{drop}
use Rattle.std.proofs.Common.{Some}
use Rattle.model.specs.Store.{slot_of}
use Rattle.views.specs.Views.{part_of, lay}
use Rattle.shares.specs.Shares.{rows_at}
use Rattle.shares.proofs.Laying.{lay_next, lay_end}
use Rattle.shares.proofs.Stamps.{pages_same}
use Rattle.shares.proofs.many.lay_numbered.Goals as goal

pub loop-j-preserved : goal.loop-j-preserved
loop-j-preserved g c =
    let a = c.args in
    let v = c.loop-j in
    let t = g.R.Row in (
      omega arith,
      λ f w p.
          pages_same
          (λ s. lay_next (t.shown_b (Some s)) (λ r. slot_of (t.object_of r)) (λ r. part_of a.word (t.seen_of r)) t.blank (t.rows a.t.now) a.numbers.now (v.j - 1) v.j (omega arith) (omega arith) (rw c.from.ensures at c.at-r.ensures) (f s))
          (c.lay_shown.ensures (λ s. lay (t.shown_b (Some s)) (λ r. slot_of (t.object_of r)) (λ r. part_of a.word (t.seen_of r)) (rows_at t.blank (t.rows a.t.now) (drop v.j a.numbers.now)) (f s)) w (v.invariant.1 f w p)),
    )

pub returns : goal.returns
returns g c =
    let a = c.args in
    let v = c.loop-j in
    let t = g.R.Row in
    λ f w p.
    pages_same
    (λ s. lay_end (t.shown_b (Some s)) (λ r. slot_of (t.object_of r)) (λ r. part_of a.word (t.seen_of r)) t.blank (t.rows a.t.now) a.numbers.now v.j c.loop-j-test.false (f s))
    (v.invariant.1 f w p)
