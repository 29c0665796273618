-- All stamps of the eights passed are before the stamp.
use Prim.Native.Nat.{ℕ, ◌*◌, ◌<◌}
use lib.ListN.{get_or}
use Rattle.shares.proofs.many.leap.Given as goal

abbrev pub invariant-loop-k : goal.invariant-loop-k
invariant-loop-k l = (i : ℕ) → i < 8 * l.k → get_or l.stamps i 0 < l.stamp
