-- Each stamp passed is at most the newest so far.
use Prim.Native.Nat.{ℕ, ◌≤◌, ◌<◌, ◌+◌}
use lib.ListN.{get_or}
use Rattle.shares.proofs.quiet.newest_on_disk.Given as goal

abbrev pub invariant-loop-stamp : goal.invariant-loop-stamp
invariant-loop-stamp l = (j : ℕ) → j < l.stamp-index → get_or l.dated (l.at + j) 0 ≤ l.newest
