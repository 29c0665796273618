-- `Place::put_writes` meets its contract: the rows written, with those that are left, are the whole.
use Rattle.journal.proofs.Places.{left_all, left_next, writes_turn, writes_end, writes_length, paired_length}
use Rattle.model.specs.Changes.{paired}
use mathlib.Core.Path.{refl}
use native.Mathlib.Omega.{arith}
use Rattle.journal.proofs.place.Place.put_writes.Goals as goal

pub loop-k-init : goal.loop-k-init
loop-k-init c =
    let a = c.args in
    left_all (omega (arith, writes_length (paired a.objects.now a.values.now), paired_length a.objects.now a.values.now c.requires.0))

pub loop-k-preserved : goal.loop-k-preserved
loop-k-preserved c =
    let v = c.loop-k in
    left_next c.put-p.ensures (left_next c.put.ensures (writes_turn c.args.objects.now c.args.values.now v.k v.invariant (omega arith) (omega arith) refl refl))

pub returns : goal.returns
returns c = writes_end c.args.objects.now c.args.values.now c.loop-k.k c.loop-k.invariant (omega arith)
