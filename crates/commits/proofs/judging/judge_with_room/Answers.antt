-- Each answer hands its test to the law of its verdict.
use Rattle.commits.proofs.Judged.{roomy_late, roomy_accepted}
use Rattle.commits.proofs.judging.judge_with_room.Goals as goal

pub returns-then-t-newest : goal.returns-then-t-newest
returns-then-t-newest c = roomy_late c.args.store.now c.args.t c.newest-newest.ensures c.if-t-newest.true

pub returns : goal.returns
returns c = roomy_accepted c.args.store.now c.args.t c.newest-newest.ensures c.if-t-newest.false
