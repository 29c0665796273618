-- The heads so far, with those of the snapshots ahead, are all of them.
use Prim.Native.Nat.{◌+◌}
use mathlib.Core.List.{◌++◌, map}
use mathlib.Core.Path.{◌≡◌}
use lib.ListN.{length, take, drop}
use Rattle.tables.specs.Rows.{copy_heads}
use Rattle.flushes.specs.Parts.{head_of}
use Rattle.flushes.proofs.archive.put_heads.Given as goal

abbrev pub invariant-loop-i : goal.invariant-loop-i
invariant-loop-i l = (length (copy_heads l.copies) ≡ 128)
    × (take (l.at + l.i) (copy_heads l.copies) ++ map (head_of l.page) (drop l.i l.due) ≡ take l.at (copy_heads l.initial.copies) ++ map (head_of l.page) l.due)
