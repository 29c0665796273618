-- The table is as it was, with the rows written so far in it.
use mathlib.Core.Path.{◌≡◌}
use lib.Seq.{paste}
use Rattle.tables.specs.Rows.{pasts}
use Rattle.tables.proofs.dropping.pack.Given as goal

abbrev pub invariant-loop-i : goal.invariant-loop-i
invariant-loop-i l = (pasts l.t ≡ paste (pasts l.initial.t) l.at l.rows l.i)
