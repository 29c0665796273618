-- The stamps ahead against the known snapshots ahead say what the whole lists say.
use mathlib.Core.Path.{◌≡◌}
use Rattle.model.specs.Lists.{kept}
use Rattle.model.specs.Judgement.{compared}
use Rattle.gossips.proofs.Comparing.{ahead, in_bounds}
use Rattle.gossips.proofs.differing.Given as goal

abbrev pub invariant-loop-i : goal.invariant-loop-i
invariant-loop-i l = compared (ahead l.upto l.stamps l.i) (ahead l.upto l.heard l.i) ≡ compared (ahead l.upto l.stamps 0) (kept (in_bounds l.prev l.upto) l.known)
