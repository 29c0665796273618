use Rattle.std.proofs.Common.{◌≤◌, length}
use Rattle.files.proofs.holder.met_in.Given as goal

abbrev pub invariant-loop-byte : goal.invariant-loop-byte
invariant-loop-byte l = l.m ≤ length l.word
