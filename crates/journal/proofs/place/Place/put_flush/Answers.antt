-- `Place::put_flush` meets its contract: its fields one behind another are the flush's record.
use Rattle.journal.proofs.Places.{left_all, left_next, left_last}
use Rattle.model.specs.Records.{encode}
use Rattle.journal.proofs.place.Place.put_flush.Goals as goal

pub returns : goal.returns
unfolding encode
returns c =
    left_last c.put-3.ensures (left_next c.put-2.ensures (left_next c.put.ensures (left_all c.requires)))
