-- Nothing where the store is damaged, else the heads and the known snapshots.
use mathlib.Core.Path.{sym, ◌∙◌}
use borrow.Author.Rules.{rules}
use native.Mathlib.Omega.{arith}
use lib.ListN.{length-take}
use Rattle.reads.proofs.Listed.{told_none, counts_in, told_padded}
use Rattle.reads.proofs.known.Goals as goal

pub returns-then-damaged : goal.returns-then-damaged
returns-then-damaged c = told_none _ (sym c.damaged.ensures ∙ c.if-damaged.true)

pub shared_ref_as_front-snapshot_rows : goal.shared_ref_as_front-snapshot_rows
shared_ref_as_front-snapshot_rows c = (counts_in c.args.store.now (sym c.damaged.ensures ∙ c.if-damaged.false)).snapshot_count

pub snapshot_rows-stamps-requires : goal.snapshot_rows-stamps-requires
snapshot_rows-stamps-requires c =
    let n = counts_in c.args.store.now (sym c.damaged.ensures ∙ c.if-damaged.false) in
    simp length-take (omega (arith, n.snapshot_count))

pub returns : goal.returns
returns c = told_padded c.args.store.now (sym c.damaged.ensures ∙ c.if-damaged.false) (search rules) c.snapshot_rows-stamps.ensures
