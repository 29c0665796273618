-- `add_displaced` adds the past value if live: the room for it is asked of the caller.
use Rattle.commits.specs.Promises.{value_at}
use Rattle.commits.proofs.Steps.{add_room, added_yes}
use Rattle.commits.proofs.applying.add_displaced.Goals as goal

pub put_past-requires : goal.put_past-requires
put_past-requires c =
    let a = c.args in
    add_room a.store.now (value_at a.store.now a.row a.object a.t) (rw c.in-Some.ensures.0 at c.in-Some.ensures.1) c.requires.room

pub returns-in-Some : goal.returns-in-Some
returns-in-Some c =
    let a = c.args in
    let e = rw c.in-Some.ensures.0 at c.in-Some.ensures.1 in
    added_yes a.store.now (value_at a.store.now a.row a.object a.t) e (add_room a.store.now (value_at a.store.now a.row a.object a.t) e c.requires.room) c.rows.ensures.1 (rw c.in-Some.ensures.0 at c.put_past.ensures)
