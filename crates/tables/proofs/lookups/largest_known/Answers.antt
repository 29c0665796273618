-- As many snapshots as the search says are at or before the time, and the last of them is the largest.
use native.Mathlib.Omega.{arith}
use Rattle.tables.proofs.Known.{none_known, last_known}
use Rattle.tables.proofs.lookups.largest_known.Goals as goal

pub returns-then-k-eq0 : goal.returns-then-k-eq0
returns-then-k-eq0 c = let a = c.args in
    let k = c.up_to-k in
    none_known a.time a.n a.snapshots.now c.requires.1 (omega arith) k.result c.if-k-eq0.true k.ensures.2

pub returns : goal.returns
returns c = let a = c.args in
    let k = c.up_to-k in
    last_known a.time a.n a.snapshots.now c.requires.1 (omega arith) k.result c.if-k-eq0.false k.ensures.0 k.ensures.1 k.ensures.2
