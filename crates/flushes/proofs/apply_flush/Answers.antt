-- There is room for the copies and the buried rows, and what the four steps leave is the model's store.
use mathlib.Core.Path.{sym, subst}
use Rattle.shares.specs.Many.{Ordered}
use Rattle.flushes.proofs.Holdings.{dues_ordered}
use Rattle.flushes.proofs.Writing.{copies_fit, graves_fit, applied}
use Rattle.flushes.proofs.apply_flush.Goals as goal

pub archive-requires-clause-copies_bound : goal.archive-requires-clause-copies_bound
archive-requires-clause-copies_bound c =
    rw c.listed-due.ensures (copies_fit c.args.store.now c.args.page c.requires.ready c.whole.ensures c.requires.planned.lists c.requires.room)

pub archive-requires-clause-ordered : goal.archive-requires-clause-ordered
archive-requires-clause-ordered c =
    subst Ordered (sym c.listed-due.ensures) (dues_ordered c.args.store.now c.args.page c.requires.ready c.whole.ensures c.requires.planned.lists)

pub bury-rows-requires-clause-m_bound : goal.bury-rows-requires-clause-m_bound
bury-rows-requires-clause-m_bound c =
    let q = rw c.new-rule.ensures at c.drop_rows-rest.ensures in
    rw (c.new-rule.ensures, c.listed-entries.ensures)
    (graves_fit c.args.store.now c.args.page c.requires.ready c.whole.ensures c.requires.planned.lists c.requires.room c.requires.planned.shares.entries q)

pub returns : goal.returns
returns c =
    let q = rw c.new-rule.ensures at c.drop_rows-rest.ensures in
    rw c.listed-due.ensures
    (applied c.args.store.now c.args.page c.requires.ready c.whole.ensures c.requires.planned.lists c.requires.room c.requires.planned.shares.entries q
    (rw c.listed-due.ensures at c.archive.ensures)
    (rw (c.new-rule.ensures, c.listed-entries.ensures) at c.bury-rows.ensures.rows)
    c.bury-rows.ensures.others
    c.settle-left.ensures
    c.whole-2.ensures)
