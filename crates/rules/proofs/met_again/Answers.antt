-- An object that is marked settles it; at the end none was. The objects that are left, with the marks, give the answer of them all.
use Prim.Native.Nat.{◌<◌}
use mathlib.Core.Path.{refl, ◌∙◌}
use mathlib.Core.Bool.{true, false}
use native.Mathlib.Omega.{arith}
use lib.ListN.{length, get_or}
use Rattle.rules.proofs.Laws.{object_low}
use Rattle.rules.proofs.Marks.{again_start, again_new}
use Rattle.rules.proofs.met_again.Invariants.{itself}
use Rattle.rules.proofs.met_again.Goals as goal
use Rattle.rules.proofs.met_again.Goals.{In-loop-object}

pub loop-object-init : goal.loop-object-init
loop-object-init c = again_start false itself c.args.seen.now c.requires.1 c.args.objects.now

-- the object has a mark
low : (c : In-loop-object) → get_or c.args.objects.now c.loop-object.object-index 0 < 512
low c = object_low c.args.objects.now c.loop-object.object-index (omega arith) c.requires.0

pub bounds-seen-object : goal.bounds-seen-object
bounds-seen-object c = low (goal.at.bounds-seen-object c).In-loop-object

pub bounds-seen-object-in-loop-object : goal.bounds-seen-object-in-loop-object
bounds-seen-object-in-loop-object c = low (goal.at.bounds-seen-object-in-loop-object c).In-loop-object

pub loop-object-preserved : goal.loop-object-preserved
loop-object-preserved c =
    let v = c.loop-object in
    let l : get_or c.args.objects.now v.object-index 0 < length v.seen = omega (arith, low (goal.at.loop-object-preserved c).In-loop-object) in
    again_new false itself v.seen c.args.objects.now v.object-index true refl (omega arith) l c.if-seen-object.false ∙ v.invariant
