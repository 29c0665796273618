-- After some writes they stand behind what was written before, each in at most 42 bytes.
use Rattle.std.proofs.Common.{◌≡◌, ◌++◌, ◌+◌, ◌*◌, ◌≤◌, length, take}
use Rattle.answers.specs.Records.{writes_text}
use Rattle.answers.proofs.line.Line.writes.Given as goal

abbrev pub invariant-loop-i : goal.invariant-loop-i
invariant-loop-i l = (l.self ≡ l.initial.self ++ writes_text (take l.i l.objects) (take l.i l.values)) × (length l.self ≤ length l.initial.self + 42 * l.i)
