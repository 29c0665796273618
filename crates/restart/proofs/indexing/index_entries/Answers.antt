-- The index is that of the entries passed, and of one more.
use Prim.Native.Nat.{◌<◌}
use mathlib.Core.Path.{◌≡◌, ap, sym}
use native.Mathlib.Omega.{arith}
use borrow.Author.Rules.{rules}
use lib.ListN.{length}
use Rattle.tables.specs.Rows.{pendings}
use Rattle.tables.proofs.Rows.{pendings_length}
use Rattle.restart.proofs.Entered.{object_in, entered}
use Rattle.restart.proofs.indexing.index_entries.Goals as goal

pub loop-i-preserved : goal.loop-i-preserved
loop-i-preserved c =
    let v = c.loop-i in
    let a = c.args in
    let es = pendings a.t.now in
    let e = c.pending_at-e in
    let m : length es ≡ 128 = pendings_length a.t.now 128 (search rules) in
    let low : e.result.object < 512 = rw e.ensures (object_in es a.n v.i c.loop-i-test.true (omega arith) c.requires.all.0) in
    entered es a.n v.i c.loop-i-test.true (omega arith) (omega arith) c.requires.all.1 v.invariant e.result.object (ap (λ e. e.object) (sym e.ensures)) low
