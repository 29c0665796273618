-- No row counts, and every word is 0.
use Rattle.std.proofs.Common.{refl}
use Rattle.model.specs.Store.{fresh}
use Rattle.tables.proofs.Store.empty.Goals as goal

pub returns : goal.returns
unfolding fresh
returns c = refl
