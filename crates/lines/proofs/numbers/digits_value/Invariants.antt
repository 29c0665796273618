-- `numbers::digits_value` meets its contract: the number so far, with the digits that are left, is the whole; it never falls.
use Rattle.lines.specs.Numbers.{decimal}
use lib.ListN.{drop}
use mathlib.Core.Path.{◌≡◌}
use Prim.Native.Nat.{◌<◌, ◌^◌}
use Rattle.lines.proofs.numbers.digits_value.Given as goal

abbrev pub invariant-loop-b : goal.invariant-loop-b
invariant-loop-b l = (l.n < 2 ^ 64) × (decimal l.n (drop l.b-index l.word) ≡ decimal 0 l.word)
