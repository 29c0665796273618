-- At the start no object is marked.
use mathlib.Core.Bool.{false}
use Rattle.rules.proofs.Marks.{blank_at}
use Rattle.rules.proofs.named_twice.Goals as goal

pub met_again-requires : goal.met_again-requires
met_again-requires c = (c.requires, blank_at false 512)
