-- The levels are written out: left to antt, both sides would be computed whole.
use Rattle.std.proofs.Common.{ℕ, sym}
use lib.ListN.{length-replicate}
use Rattle.terminal.proofs.input.buffer.Goals as goal

pub returns : goal.returns
returns c = sym {0} (length-replicate {0} {A = ℕ} 1048577 0)
