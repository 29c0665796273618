-- With no rows none is dropped; else the compaction by the marks of the copies drops what is dead by the copies.
use borrow.Author.Rules.{rules}
use Rattle.tables.proofs.Rows.{copies_length}
use Rattle.gossips.proofs.Applying.{none_live, lives_on}
use Rattle.gossips.proofs.drop_past.Goals as goal

pub returns-then-store-eq0 : goal.returns-then-store-eq0
returns-then-store-eq0 c = none_live c.args.store.now c.args.horizon c.if-store-eq0.true

pub returns : goal.returns
returns c =
    let s = c.args.store.now in
    lives_on s c.args.horizon c.requires.counted (search rules) (copies_length _ _ (search rules)) c.rows.ensures c.drop_dead-store.new.t c.drop_dead-store.result c.marks_of.new.marks c.marks_of.ensures.0 c.drop_dead-store.ensures
