-- `Place::put_stamps` meets its contract: the stamps written, with those that are left, are the whole.
use Rattle.journal.proofs.Places.{Left}
use Rattle.model.specs.Records.{stamp_bytes}
use lib.ListN.{drop}
use Rattle.journal.proofs.place.Place.put_stamps.Given as goal

abbrev pub invariant-loop-stamp : goal.invariant-loop-stamp
invariant-loop-stamp l = Left (stamp_bytes l.stamps) (stamp_bytes (drop l.stamp-index l.stamps)) l.initial.j l.initial.p.at l.j l.p.at
