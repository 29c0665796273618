-- Whatever change has the given length, its record reaches as far.
use Rattle.changes.proofs.Rooms.{fits_there, no_room_there}
use Rattle.changes.proofs.settling.settled.Goals as goal

pub returns-then-journal-reached : goal.returns-then-journal-reached
returns-then-journal-reached c d l =
    let a = c.args in
    no_room_there a.journal.now a.used.at c.behind-reached.ensures c.in-Accepted.is d l c.if-journal-reached.true

pub returns-else-journal-reached : goal.returns-else-journal-reached
returns-else-journal-reached c d l =
    let a = c.args in
    fits_there a.journal.now a.used.at c.behind-reached.ensures c.in-Accepted.is d l c.if-journal-reached.false
