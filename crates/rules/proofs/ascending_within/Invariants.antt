-- A stamp at or below the one before makes them not rising; at the end the last one tells whether all are at most curr.
-- The loop's invariant: the stamps that are left, with the one before them, give the answer of them all where those so far rise.
use mathlib.Core.Path.{◌≡◌}
use lib.ListN.{drop}
use Rattle.model.specs.Lists.{both}
use Rattle.rules.proofs.Laws.{within, bounded}
use Rattle.rules.proofs.ascending_within.Given as goal

abbrev pub invariant-loop-stamp : goal.invariant-loop-stamp
invariant-loop-stamp l = both l.rising (bounded l.below l.curr (drop l.stamp-index l.stamps)) ≡ within l.prev l.curr l.stamps
