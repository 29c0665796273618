-- The rows copied so far are those of the table, from the first asked for on.
use mathlib.Core.Path.{◌≡◌}
use lib.ListN.{length, take, drop}
use Rattle.tables.specs.Rows.{pasts}
use Rattle.tables.proofs.dropping.unpacked.Given as goal

abbrev pub invariant-loop-i : goal.invariant-loop-i
invariant-loop-i l = (length l.rows ≡ 16) × (take l.i l.rows ≡ take l.i (drop l.from (pasts l.t)))
