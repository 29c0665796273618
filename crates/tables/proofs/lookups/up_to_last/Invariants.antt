-- A search from the last row: the rows passed are not among those that pass.
use Rattle.std.proofs.Common.{ℕ, ◌≤◌, ◌<◌, false}
use Rattle.tables.proofs.lookups.up_to_last.Given as goal

abbrev pub invariant-loop-i : goal.invariant-loop-i
invariant-loop-i g l = (k : ℕ) → l.i ≤ k → k < l.n → g.F.Fn.post l.passes (k, tt) false
