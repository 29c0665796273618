use Rattle.std.proofs.Common.{◌≤◌, length}
use Rattle.files.proofs.holder.behind_word.Given as goal

abbrev pub invariant-loop-i : goal.invariant-loop-i
invariant-loop-i l = l.m ≤ length l.word
