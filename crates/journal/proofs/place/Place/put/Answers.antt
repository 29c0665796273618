-- `Place::put` meets its contract: `put_be` wrote the field, which has as many bytes as its width says.
use Rattle.std.proofs.Common.{refl}
use Rattle.journal.proofs.Places.{field_moved}
use Rattle.journal.proofs.place.Place.put.Goals as goal

pub returns : goal.returns
returns c = field_moved c.args.self.at c.args.width c.args.x refl c.put_be.ensures
