use Rattle.std.proofs.Common.{◌≤◌, length}
use Rattle.files.proofs.holder.may_stand.Given as goal

abbrev pub invariant-loop : goal.invariant-loop
invariant-loop l = l.m ≤ length l.word
