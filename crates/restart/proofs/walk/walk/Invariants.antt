-- What is left of the walk, from the store that the struct holds, is the whole walk.
use Prim.Native.Nat.{◌-◌}
use lib.ListN.{length, take}
use Rattle.tables.specs.Rows.{pendings}
use Rattle.restart.specs.Turns.{Follows}
use Rattle.restart.proofs.Walking.{Walking}
use Rattle.restart.proofs.walk.walk.Given as goal

abbrev pub invariant-loop-offset : goal.invariant-loop-offset
invariant-loop-offset l = Walking l.journal l.store l.place.at × Follows l.room.indexed l.room.index (take l.store.heads.pending (pendings l.store.written.pending))

abbrev pub decreases-loop-offset : goal.decreases-loop-offset
decreases-loop-offset l = length l.journal - l.place.at
