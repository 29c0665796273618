-- The last of a step is up to the horizon, and so are all before it.
use Prim.Native.Nat.{◌*◌}
use mathlib.Core.Path.{◌≡◌}
use lib.Dec.{ltb}
use lib.ListN.{drop}
use Rattle.model.specs.Lists.{kept}
use Rattle.gossips.proofs.leap.Given as goal

abbrev pub invariant-loop-k : goal.invariant-loop-k
invariant-loop-k l = kept (ltb l.horizon) l.stamps ≡ kept (ltb l.horizon) (drop (8 * l.k) l.stamps)
