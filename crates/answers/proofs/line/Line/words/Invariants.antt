-- After some numbers they stand behind what was written before, each in at most 21 bytes.
use Rattle.std.proofs.Common.{◌≡◌, ◌++◌, ◌+◌, ◌*◌, ◌≤◌, length, take}
use Rattle.answers.specs.Says.{spaced}
use Rattle.answers.proofs.line.Line.words.Given as goal

abbrev pub invariant-loop-n : goal.invariant-loop-n
invariant-loop-n l = (l.self ≡ l.initial.self ++ spaced (take l.n-index l.numbers)) × (length l.self ≤ length l.initial.self + 21 * l.n-index)
