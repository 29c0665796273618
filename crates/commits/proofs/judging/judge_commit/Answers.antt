-- Each answer hands its tests to the law of its verdict.
use Rattle.commits.proofs.Judged.{judged_late, judged_pending, judged_past, judged_accepted}
use Rattle.commits.proofs.judging.judge_commit.Goals as goal

pub returns-then-t-latest : goal.returns-then-t-latest
returns-then-t-latest c = judged_late c.args.store.now c.args.t c.args.objects.now c.newest-latest.ensures c.requires.once c.if-t-latest.true

pub returns-then-store-w : goal.returns-then-store-w
returns-then-store-w c =
    judged_pending c.args.store.now c.args.t c.args.objects.now c.newest-latest.ensures c.requires.once c.if-t-latest.false c.weigh-w.ensures.entries_value c.if-store-w.true

pub returns-then-store-w-2 : goal.returns-then-store-w-2
returns-then-store-w-2 c =
    judged_past c.args.store.now c.args.t c.args.objects.now c.newest-latest.ensures c.requires.once c.if-t-latest.false c.weigh-w.ensures.entries_value c.if-store-w.false c.requires.counted c.weigh-w.ensures.by_index c.if-store-w-2.true

pub returns : goal.returns
returns c =
    judged_accepted c.args.store.now c.args.t c.args.objects.now c.newest-latest.ensures c.requires.once c.if-t-latest.false c.weigh-w.ensures.entries_value c.if-store-w.false c.requires.counted c.weigh-w.ensures.by_index c.if-store-w-2.false
