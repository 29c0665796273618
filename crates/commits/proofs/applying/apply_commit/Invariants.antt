-- The writes made with those to come are all.
use lib.ListN.{length}
use Rattle.commits.proofs.Commit.{Written}
use Rattle.commits.proofs.applying.apply_commit.Given as goal

abbrev pub invariant-loop-object : goal.invariant-loop-object
invariant-loop-object l = Written l.t l.objects l.values l.fn.store l.store l.index (length l.yielded)
