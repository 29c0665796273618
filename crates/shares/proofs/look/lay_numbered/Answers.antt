-- From the last of the numbered rows to the first, `out` is those passed laid over what it was.
use Prim.Native.Nat.{◌-◌, ◌%◌}
use mathlib.Core.Path.{ap}
use native.Mathlib.Omega.{arith}
use Rattle.model.specs.Store.{slot_of}
use Rattle.views.specs.Views.{part_of}
use Rattle.shares.proofs.Laying.{lay_turn}
use Rattle.shares.proofs.look.lay_numbered.Goals as goal

pub loop-j-preserved : goal.loop-j-preserved
loop-j-preserved g c =
    let a = c.args in
    let v = c.loop-j in
    let t = g.R.Row in (
      omega arith,
      lay_turn (t.shown_b a.v.as_of) (λ r. slot_of (t.object_of r)) (λ r. part_of a.v.word (t.seen_of r)) t.blank (t.rows a.t.now) a.numbers.now (v.j - 1) v.j (omega arith) (omega arith)
          (rw c.from.ensures at c.at-r.ensures) a.out.now v.invariant.1 (c.object.result % 16) (ap (λ o. o % 16) c.object.ensures) c.lay_row.ensures,
    )
