-- One turn: the row is looked at, put at place k, and k goes on where it stays.
use Rattle.std.proofs.Common.{ℕ, ◌+◌, arith, sym, subst, ap, ◌∙◌}
use Rattle.tables.specs.Compaction.{Compacted}
use Rattle.tables.proofs.Compacts.{step, after_is}
use Rattle.tables.proofs.dropping.compact.Goals as goal

pub loop-i-preserved : goal.loop-i-preserved
loop-i-preserved c =
    let v = c.loop-i in
    let bs = c.args.stay.now in
    let rows = c.args.rows.now in
    let turn = step bs v.i rows v.rows v.k (omega arith) (omega (arith, v.invariant.1, c.requires)) v.invariant in
    subst (Compacted bs (v.i + 1) rows _) (after_is _ v.k ∙ ap (λ (m : ℕ). v.k + m) (sym c.from-k.ensures)) turn
