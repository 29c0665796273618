-- No stamp passed is beyond the horizon; from the first that is, all are.
use mathlib.Core.Path.{◌≡◌}
use lib.Dec.{ltb}
use lib.ListN.{drop}
use Rattle.model.specs.Lists.{kept}
use Rattle.gossips.proofs.count_known.Given as goal

abbrev pub invariant-loop-i : goal.invariant-loop-i
invariant-loop-i l = kept (ltb l.horizon) l.stamps ≡ kept (ltb l.horizon) (drop l.i l.stamps)
