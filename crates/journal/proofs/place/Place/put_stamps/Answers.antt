-- `Place::put_stamps` meets its contract: the stamps written, with those that are left, are the whole.
use Rattle.journal.proofs.Places.{left_all, left_next, stamps_turn, stamps_end, stamps_length}
use native.Mathlib.Omega.{arith}
use Rattle.journal.proofs.place.Place.put_stamps.Goals as goal

pub loop-stamp-init : goal.loop-stamp-init
loop-stamp-init c = left_all (omega (arith, stamps_length c.args.stamps.now))

pub put-p-requires : goal.put-p-requires
put-p-requires c =
    let v = c.loop-stamp in
    omega (arith, (stamps_turn c.args.stamps.now v.stamp-index v.invariant (omega arith)).fits)

pub loop-stamp-preserved : goal.loop-stamp-preserved
loop-stamp-preserved c =
    let v = c.loop-stamp in
    left_next c.put-p.ensures (stamps_turn c.args.stamps.now v.stamp-index v.invariant (omega arith))

pub returns : goal.returns
returns c = stamps_end c.args.stamps.now c.loop-stamp.stamp-index c.loop-stamp.invariant (omega arith)
