-- The bytes read lie within the journal, which keeps its length; the measure is the room left.
use Rattle.std.proofs.Common.{◌≡◌, ◌≤◌, ◌-◌, length}
use Rattle.files.proofs.file.read.Given as goal

abbrev pub invariant-loop-n : goal.invariant-loop-n
invariant-loop-n l = (l.n ≤ length l.journal) × (length l.journal ≡ length l.fn.journal)

abbrev pub decreases-loop-n : goal.decreases-loop-n
decreases-loop-n l = length l.journal - l.n
