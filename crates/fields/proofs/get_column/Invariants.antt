-- `fields::get_column` meets its contract: what is filled, with what is left to read, is the whole column.
use Rattle.model.specs.Bytes.{column}
use lib.ListN.{take, drop, length}
use mathlib.Core.List.{◌++◌}
use mathlib.Core.Path.{◌≡◌}
use Prim.Native.Nat.{◌-◌, ◌+◌, ◌*◌}
use Rattle.fields.proofs.get_column.Given as goal

abbrev pub invariant-loop-i : goal.invariant-loop-i
invariant-loop-i l = take l.i l.out ++ column l.width l.stride (length l.initial.out - l.i) (drop (l.at + l.stride * l.i) l.s) ≡ column l.width l.stride (length l.initial.out) (drop l.at l.s)
