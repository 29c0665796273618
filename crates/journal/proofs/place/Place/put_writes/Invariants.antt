-- `Place::put_writes` meets its contract: the rows written, with those that are left, are the whole.
use Rattle.journal.proofs.Places.{Left}
use Rattle.model.specs.Records.{write_bytes}
use Rattle.model.specs.Changes.{paired}
use lib.ListN.{drop}
use Rattle.journal.proofs.place.Place.put_writes.Given as goal

abbrev pub invariant-loop-k : goal.invariant-loop-k
invariant-loop-k l = Left (write_bytes (paired l.objects l.values)) (write_bytes (paired (drop l.k l.objects) (drop l.k l.values))) l.initial.j l.initial.p.at l.j l.p.at
