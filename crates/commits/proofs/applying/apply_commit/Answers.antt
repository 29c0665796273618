-- The writes made with those to come are all.
use mathlib.Core.Path.{ap, sym, ◌∙◌}
use native.Mathlib.Omega.{arith}
use lib.ListN.{length, length-append}
use Rattle.std.proofs.lemmas.Slice.Zip.{zip_turn, zip_end}
use Rattle.commits.specs.Promises.{entries}
use Rattle.commits.proofs.Displacing.{few}
use Rattle.commits.proofs.Commit.{Turn, written_start, written_room, written_over, written_new, written_end, object_low}
use Rattle.commits.proofs.applying.apply_commit.Goals as goal
use Rattle.commits.proofs.applying.apply_commit.Goals.{In-Some}

-- the pair of this turn
turn : (c : In-Some) → Turn c.args.objects.now c.args.values.now (length c.loop-object.yielded) c.in-Some.object.now c.in-Some.value.now
turn c =
    let e = c.into_iter-object-iterator.ensures.into_iter_gives in
    let z = c.zip-object-items.ensures in
    let p = zip_turn c.args.objects.now c.args.values.now c.loop-object.yielded c.into_iter-object-iterator.result c.loop-object.object-iterator c.next.new.self c.next.result
    (ap (λ z. z.a.rest.now) e ∙ ap (λ i. i.rest.now) z.first ∙ c.iter.ensures.rest) (ap (λ z. z.b.rest.now) e ∙ z.second.0)
    c.loop-object.yielded_by (c.in-Some.object, c.in-Some.value) c.in-Some.is c.next.ensures.steps in
    record { objects_left = p.0; values_left = p.1; object_is = p.2 0; value_is = p.3 0 }

pub loop-object-init : goal.loop-object-init
loop-object-init c = written_start c.args.t c.args.values.now c.requires.ready c.rows.ensures.0

pub row_of-requires : goal.row_of-requires
row_of-requires c = omega (arith, object_low c.loop-object.invariant c.requires.ready (turn (goal.at.row_of-requires c).In-Some))

-- ---- an object that has an entry
pub write_over-requires-clause-room : goal.write_over-requires-clause-room
write_over-requires-clause-room c = written_room c.loop-object.invariant c.requires.ready (turn (goal.at.write_over-requires-clause-room c).In-Some) c.requires.room.1

pub loop-object-preserved-in-Some-row_of : goal.loop-object-preserved-in-Some-row_of
loop-object-preserved-in-Some-row_of c =
    let v = c.loop-object in
    let f = sym (c.in-Some-row_of.ensures (entries v.store) (few v.store v.invariant.counted) v.invariant.indexed) in
    rw length-append (written_over v.invariant c.requires.ready (turn (goal.at.loop-object-preserved-in-Some-row_of c).In-Some) c.write_over.ensures f)

-- ---- one that has none
pub bounds-index-object : goal.bounds-index-object
bounds-index-object c = object_low c.loop-object.invariant c.requires.ready (turn (goal.at.bounds-index-object c).In-Some)

pub write_new-requires-clause-room : goal.write_new-requires-clause-room
write_new-requires-clause-room c = written_room c.loop-object.invariant c.requires.ready (turn (goal.at.write_new-requires-clause-room c).In-Some) c.requires.room.1

pub loop-object-preserved : goal.loop-object-preserved
loop-object-preserved c =
    let v = c.loop-object in
    let f = sym (c.in-None-row_of.ensures (entries v.store) (few v.store v.invariant.counted) v.invariant.indexed) in
    rw length-append (written_new v.invariant c.requires.ready (turn (goal.at.loop-object-preserved c).In-Some) c.write_new.ensures f c.requires.room.1)

pub returns-clause-applied : goal.returns-clause-applied
returns-clause-applied c =
    let a = c.args in
    let e = c.into_iter-object-iterator.ensures.into_iter_gives in
    let z = c.zip-object-items.ensures in
    let n = zip_end a.objects.now a.values.now c.loop-object.yielded c.into_iter-object-iterator.result c.loop-object.object-iterator c.next.new.self c.next.result
    (ap (λ z. z.a.rest.now) e ∙ ap (λ i. i.rest.now) z.first ∙ c.iter.ensures.rest) (ap (λ z. z.b.rest.now) e ∙ z.second.0)
    c.loop-object.yielded_by c.in-None.is c.next.ensures.steps in
    written_end c.loop-object.invariant (omega (arith, n, c.requires.room.0))
