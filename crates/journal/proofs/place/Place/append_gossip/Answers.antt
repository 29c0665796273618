-- `Place::append_gossip` meets its contract: the gossip message's record stands behind what `begun` wrote, and there is room for both.
use Rattle.journal.proofs.Places.{reached_is, begun_fits, begun_then}
use Rattle.model.specs.Changes.{Change, gossip}
use native.Mathlib.Omega.{arith}
use Rattle.journal.proofs.place.Place.append_gossip.Goals as goal
use Rattle.journal.proofs.place.Place.append_gossip.Goals.{Start}

abbrev told : Start → Change
told c = gossip c.args.prev c.args.curr c.args.stamps.now

pub begun-requires : goal.begun-requires
begun-requires c = omega (arith, reached_is c.args.self.at (told (goal.at.begun-requires c).Start))

pub put_gossip-requires : goal.put_gossip-requires
put_gossip-requires c =
    (c.requires.0, omega (arith, begun_fits (told (goal.at.put_gossip-requires c).Start) c.begun.ensures c.requires.1))

pub returns : goal.returns
returns c =
    begun_then (told (goal.at.returns c).Start) c.begun.ensures c.requires.1 c.put_gossip.ensures
