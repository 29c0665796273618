-- `words::run_of` meets its contract: the bytes passed, with the run that is left, are the whole run.
use Rattle.lines.specs.Words.{leading, of_class}
use lib.ListN.{drop}
use mathlib.Core.Path.{◌≡◌}
use Prim.Native.Nat.{◌+◌}
use Rattle.lines.proofs.words.run_of.Given as goal

abbrev pub invariant-loop-i : goal.invariant-loop-i
invariant-loop-i l = l.i + leading (of_class l.class) (drop l.i l.bytes) ≡ leading (of_class l.class) l.bytes
