-- `write_over` leaves the store that the model's write leaves, over the object's entry.
use Rattle.commits.proofs.Displacing.{row_low}
use Rattle.commits.proofs.Steps.{over_room, wrote_over}
use Rattle.commits.proofs.applying.write_over.Goals as goal

pub add_displaced-requires : goal.add_displaced-requires
add_displaced-requires c =
    let a = c.args in
    let r = c.requires in
    record {
      sound = (r.sound, row_low a.store.now c.rows.ensures.0 r.sound.counted a.object a.row r.found);
      room = over_room a.store.now c.rows.ensures.0 r.sound.counted a.t a.object a.value a.row r.found r.room;
    }

pub rewrite_pending-requires : goal.rewrite_pending-requires
rewrite_pending-requires c =
    let a = c.args in
    row_low a.store.now c.rows.ensures.0 c.requires.sound.counted a.object a.row c.requires.found

pub returns : goal.returns
returns c =
    let a = c.args in
    let r = c.requires in
    wrote_over a.store.now c.rows.ensures.0 r.sound.counted a.t a.object a.value a.row r.found c.add_displaced.new.store c.add_displaced.ensures _ c.rewrite_pending.ensures
