-- The rows so far, with those that the entries ahead leave, are all of them.
use Prim.Native.Nat.{◌≤◌}
use mathlib.Core.List.{[], ◌++◌}
use mathlib.Core.Path.{◌≡◌}
use lib.ListN.{length, take, drop}
use Rattle.tables.specs.Rows.{pending_of, pendings, pasts}
use Rattle.shares.specs.Shares.{rows_at}
use Rattle.flushes.specs.Parts.{graves}
use Rattle.flushes.proofs.settle.bury.Given as goal

abbrev pub invariant-loop-number : goal.invariant-loop-number
invariant-loop-number l =
    let w = l.fn.w in
    (l.k ≤ 256) × (length (pasts l.past) ≡ 256)
    × (take l.k (pasts l.past) ++ graves w.disk w.dated l.snapshots l.rule (rows_at (pending_of []) (pendings w.pending) (drop l.number-index l.numbers))
    ≡ take l.m (pasts w.past) ++ graves w.disk w.dated l.snapshots l.rule (rows_at (pending_of []) (pendings w.pending) l.numbers))
