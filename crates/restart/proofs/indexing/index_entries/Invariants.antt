-- The index is that of the entries passed.
use lib.ListN.{take}
use Rattle.tables.specs.Rows.{pendings}
use Rattle.tables.specs.Lookups.{Indexed}
use Rattle.restart.proofs.indexing.index_entries.Given as goal

abbrev pub invariant-loop-i : goal.invariant-loop-i
invariant-loop-i l = Indexed l.index (take l.i (pendings l.t))
