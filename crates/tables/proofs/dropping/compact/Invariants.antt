-- Of the first i rows, those that stay are at the front, k of them.
use Rattle.tables.specs.Compaction.{Compacted}
use Rattle.tables.proofs.dropping.compact.Given as goal

abbrev pub invariant-loop-i : goal.invariant-loop-i
invariant-loop-i l = Compacted l.stay l.i l.initial.rows l.rows l.k
