-- The entries written with those to come are all.
use mathlib.Core.Path.{ap, ◌∙◌}
use native.Mathlib.Omega.{arith}
use borrow.Author.Rules.{rules}
use lib.ListN.{length, length-set}
use Rattle.tables.specs.Rows.{pendings}
use Rattle.tables.proofs.Rows.{pendings_length}
use Rattle.commits.proofs.AllNew.{adding_next, adding_all}
use Rattle.commits.proofs.applying.enter.Goals as goal

pub loop-k-init : goal.loop-k-init
loop-k-init c = record { rows = pendings_length _ _ (search rules); all = search rules }

pub loop-k-preserved : goal.loop-k-preserved
loop-k-preserved c =
    let a = c.args in
    let v = c.loop-k in
    record {
      rows = ap length c.put_pending.ensures ∙ simp length-set v.invariant.rows;
      all = rw c.put_pending.ensures (adding_next a.t a.objects.now a.values.now (pendings v.pending) v.k v.invariant.all (omega arith) c.loop-k-test.true (omega arith));
    }

pub returns : goal.returns
returns c =
    let a = c.args in
    let v = c.loop-k in
    adding_all a.t a.objects.now a.values.now (pendings v.pending) v.k v.invariant.all (omega arith) (omega arith)
