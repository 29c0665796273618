-- What is filled, with what is left to read, is the whole column.
use Prim.Native.Nat.{◌-◌, ◌+◌, ◌*◌}
use mathlib.Core.Path.{◌≡◌}
use mathlib.Core.List.{◌++◌}
use lib.ListN.{take, drop, length}
use Rattle.model.specs.Bytes.{column}
use Rattle.exchange.proofs.hearing.read_stamps.Given as goal

abbrev pub invariant-loop-i : goal.invariant-loop-i
invariant-loop-i l = take l.i l.out ++ column 8 8 (length l.initial.out - l.i) (drop (20 + 8 * l.i) l.bytes) ≡ column 8 8 (length l.initial.out) (drop 20 l.bytes)
