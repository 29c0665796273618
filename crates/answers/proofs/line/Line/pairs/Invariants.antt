-- After some bytes their digits stand behind what was written before, two a byte.
use Rattle.std.proofs.Common.{◌≡◌, ◌++◌, ◌+◌, ◌*◌, ◌≤◌, length, take}
use Rattle.answers.specs.Hex.{hex_of}
use Rattle.answers.proofs.line.Line.pairs.Given as goal

abbrev pub invariant-loop-b : goal.invariant-loop-b
invariant-loop-b l = (l.self ≡ l.initial.self ++ hex_of (take l.b-index l.bytes)) × (length l.self ≤ length l.initial.self + 2 * l.b-index)
