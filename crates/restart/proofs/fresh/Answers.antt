-- The fresh store with the answer of a start from nothing.
use Rattle.model.specs.Restart.{fresh_start}
use Rattle.restart.proofs.fresh.Goals as goal

pub returns-clause-rebuilt : goal.returns-clause-rebuilt
unfolding fresh_start
returns-clause-rebuilt c = c.start.ensures.rebuilt
