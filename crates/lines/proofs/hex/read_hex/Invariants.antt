-- `hex::read_hex` meets its contract: the bytes so far, with those of the digits that are left, are all of them.
use Rattle.lines.proofs.Hexes.{Pairing}
use mathlib.Core.Path.{◌≡◌}
use lib.ListN.{length}
use Rattle.lines.proofs.hex.read_hex.Given as goal

abbrev pub invariant-loop-i : goal.invariant-loop-i
invariant-loop-i l = (length l.out ≡ 512) × Pairing l.word l.out l.i
