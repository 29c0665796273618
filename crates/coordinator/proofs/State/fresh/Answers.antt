-- With a count of 0 and nothing sent no word of the stamps counts.
use Rattle.std.proofs.Common.{refl}
use Rattle.model.specs.Coordinator.{fresh_coordinator}
use Rattle.coordinator.proofs.State.fresh.Goals as goal

pub returns : goal.returns
unfolding fresh_coordinator
returns c = (refl, refl)
