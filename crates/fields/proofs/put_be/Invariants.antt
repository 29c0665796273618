-- `fields::put_be` meets its contract: the low bytes are in place, and the rest of the number is still to be written before them.
use mathlib.Core.Path.{◌≡◌}
use lib.ListN.{length}
use Rattle.model.specs.Bytes.{be, write_at}
use Rattle.fields.proofs.put_be.Given as goal

abbrev pub invariant-loop-k : goal.invariant-loop-k
invariant-loop-k l = (length l.j ≡ length l.initial.j) × (write_at l.at (be l.k l.y) l.j ≡ write_at l.at (be l.width l.x) l.initial.j)
