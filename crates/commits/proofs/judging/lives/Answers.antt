-- `lives` judges by the snapshots and copies that the store holds.
use borrow.Author.Rules.{rules}
use Rattle.tables.proofs.Rows.{copies_length}
use Rattle.commits.proofs.Displacing.{live_stored}
use Rattle.commits.proofs.judging.lives.Goals as goal

pub returns : goal.returns
returns c = live_stored c.args.store.now c.args.q (search rules) (copies_length _ _ (search rules)) c.requires.counted c.live.ensures
