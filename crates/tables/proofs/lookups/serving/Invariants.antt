-- From the last row to the first, the code holds the oldest serving copy of the rows passed, or that there is none.
use Rattle.tables.specs.Rows.{copy_heads}
use Rattle.tables.proofs.Oldest.{Held}
use Rattle.tables.proofs.lookups.serving.Given as goal

abbrev pub invariant-loop-i : goal.invariant-loop-i
invariant-loop-i l = Held (copy_heads l.t) l.n l.page l.s l.best l.at l.i
