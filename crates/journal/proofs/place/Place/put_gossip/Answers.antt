-- `Place::put_gossip` meets its contract: its fields, each at its place, are the gossip message's record.
use Rattle.journal.proofs.Places.{gossip_written}
use Rattle.journal.proofs.place.Place.put_gossip.Goals as goal

pub returns : goal.returns
returns c =
    let a = c.args in
    gossip_written a.self.at a.prev a.curr a.stamps.now a.j.now c.requires.1
    c.put_be.ensures c.put_be-2.ensures c.put_be-3.ensures c.put_be-4.ensures c.put_stamps-end.ensures c.put_be-5.ensures
