-- The input lies within the buffer after each line.
use Rattle.std.proofs.Common.{length}
use Rattle.terminal.specs.Buffers.{Within}
use Rattle.terminal.proofs.serve.serve_all.Given as goal

abbrev pub invariant-loop : goal.invariant-loop
invariant-loop g l = Within l.input (length l.buffer)
