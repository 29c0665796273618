-- `Place::append_flush` meets its contract: the flush's record stands behind what `begun` wrote, and there is room for both.
use Rattle.journal.proofs.Places.{reached_is, begun_fits, begun_then}
use Rattle.model.specs.Changes.{flush}
use native.Mathlib.Omega.{arith}
use Rattle.journal.proofs.place.Place.append_flush.Goals as goal

pub begun-requires : goal.begun-requires
begun-requires c = omega (arith, reached_is c.args.self.at (flush c.args.page))

pub put_flush-requires : goal.put_flush-requires
put_flush-requires c =
    begun_fits (flush c.args.page) c.begun.ensures c.requires

pub returns : goal.returns
returns c =
    begun_then (flush c.args.page) c.begun.ensures c.requires c.put_flush.ensures
