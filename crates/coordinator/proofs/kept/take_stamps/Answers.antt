-- `kept::take_stamps` meets its contract: those taken, with the rest, are the column; and with how many of the rest rise, as many as rise of all.
use Rattle.std.proofs.Common.{◌∙◌, ◌<◌, ◌≤◌, length, arith}
use Rattle.fields.proofs.Laws.{column_turn}
use Rattle.coordinator.proofs.Restarting.{stamp_at, risen_stop, risen_next}
use Rattle.coordinator.proofs.kept.take_stamps.Goals as goal

pub returns-then-read-below : goal.returns-then-read-below
returns-then-read-below c =
    let v = c.loop-i in
    let o = c.args.out.now in
    let b = c.args.bytes.now in
    let h : v.i < length o = omega arith in
    let l : stamp_at b v.i ≤ v.below = omega (arith, c.get_be-read.ensures) in
    (risen_stop b (length o) v.below v.i h l ∙ v.invariant.0, λ n. absurd (omega arith))

pub loop-i-preserved : goal.loop-i-preserved
loop-i-preserved c =
    let v = c.loop-i in
    let o = c.args.out.now in
    let b = c.args.bytes.now in
    let q = c.get_be-read.ensures in
    let h : v.i < length o = omega arith in
    let l : v.below < stamp_at b v.i = omega (arith, q) in (
      rw q (risen_next b (length o) v.below v.i h l ∙ v.invariant.0),
      rw q (column_turn 8 8 (length o) v.i 10 b v.out h (omega arith) ∙ v.invariant.1),
    )
