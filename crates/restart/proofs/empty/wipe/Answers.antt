-- Two cleared disks and heads of 0 hold the fresh store.
use Rattle.restart.proofs.Zeros.{holds_fresh}
use Rattle.restart.proofs.empty.wipe.Goals as goal

pub returns-clause-holds : goal.returns-clause-holds
returns-clause-holds c = let s = c.args.store.now in
    holds_fresh c.clear.ensures c.clear-2.ensures s.written.pending s.written.past s.snapshots s.copies s.copied
