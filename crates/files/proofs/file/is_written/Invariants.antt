-- The measure is the number of bytes left: each turn writes some.
use Rattle.std.proofs.Common.{◌-◌, length}
use Rattle.files.proofs.file.is_written.Given as goal

abbrev pub decreases-loop-at : goal.decreases-loop-at
decreases-loop-at l = length l.bytes - l.at
