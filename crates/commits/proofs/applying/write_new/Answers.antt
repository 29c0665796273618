-- `write_new` leaves the store that the model's write leaves, in a new row.
use Rattle.commits.proofs.Steps.{new_room, wrote_new}
use Rattle.commits.proofs.applying.write_new.Goals as goal

pub put_pending-requires : goal.put_pending-requires
put_pending-requires c =
    let a = c.args in
    let r = c.requires in
    new_room a.store.now c.rows.ensures.0 r.sound.counted a.t a.object a.value r.found r.room

pub returns : goal.returns
returns c =
    let a = c.args in
    let r = c.requires in
    let p = c.rows.ensures.0 in
    wrote_new a.store.now p r.sound.counted a.t a.object a.value r.found (new_room a.store.now p r.sound.counted a.t a.object a.value r.found r.room) c.put_pending.ensures
