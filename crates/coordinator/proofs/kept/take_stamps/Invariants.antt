-- `kept::take_stamps` meets its contract: those taken, with the rest, are the column; and with how many of the rest rise, as many as rise of all.
use Prim.Native.Nat.{◌+◌}
use mathlib.Core.Path.{◌≡◌}
use mathlib.Core.List.{◌++◌}
use lib.ListN.{length, take, drop}
use Rattle.model.specs.Bytes.{column}
use Rattle.model.specs.CoordinatorBytes.{risen}
use Rattle.coordinator.proofs.Restarting.{stamps_from}
use Rattle.coordinator.proofs.kept.take_stamps.Given as goal

abbrev pub invariant-loop-i : goal.invariant-loop-i
invariant-loop-i l = (l.i + risen l.below (stamps_from l.bytes (length l.initial.out) l.i) ≡ risen 0 (column 8 8 (length l.initial.out) (drop 10 l.bytes)))
    × (take l.i l.out ++ stamps_from l.bytes (length l.initial.out) l.i ≡ column 8 8 (length l.initial.out) (drop 10 l.bytes))
