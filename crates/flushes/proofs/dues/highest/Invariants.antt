-- The largest so far, with the stamps ahead, is the largest of all.
use Prim.Native.Nat.{max}
use mathlib.Core.Path.{◌≡◌}
use lib.ListN.{drop}
use Rattle.flushes.specs.Parts.{top}
use Rattle.flushes.proofs.dues.highest.Given as goal

abbrev pub invariant-loop-s : goal.invariant-loop-s
invariant-loop-s l = max l.best (top (drop l.s-index l.due)) ≡ max l.marked (top l.due)
