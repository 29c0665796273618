-- The list and the mark are the model's, and so the verdict by counts is.
use Prim.Native.Nat.{max}
use mathlib.Core.Path.{◌≡◌, ap, ◌∙◌}
use lib.ListN.{length, take}
use Rattle.model.specs.Lists.{kept}
use Rattle.tables.specs.Rows.{pasts}
use Rattle.tables.specs.Contents.{stored}
use Rattle.flushes.specs.Promises.{Listed}
use Rattle.flushes.specs.Parts.{top, stays_under}
use Rattle.flushes.proofs.Holdings.{staying}
use Rattle.flushes.proofs.Judging.{listing, judging}
use Rattle.flushes.proofs.judge_flush.Goals as goal
use Rattle.flushes.proofs.judge_flush.Goals.{After-verdict-verdict}

-- the due snapshots are listed
known : (c : After-verdict-verdict) → Listed (stored c.args.store.now) c.args.page c.list_dues.new.due.items c.highest-mark.result
known c =
    let s = c.args.store.now in
    listing s c.args.page c.requires c.whole.ensures (c.mark_of-marked.ensures s.copied) c.list_dues.ensures
    (c.highest-mark.ensures ∙ ap (λ l. max c.mark_of-marked.result (top l)) c.listed-due.ensures)

stay : (c : After-verdict-verdict) → c.count_staying-staying.result ≡ length (staying c.args.store.now c.args.page c.highest-mark.result)
stay c =
    let s = c.args.store.now in
    c.count_staying-staying.ensures.0
    ∙ ap (λ r. length (kept (stays_under s.snapshots r) (take s.heads.past (pasts s.written.past)))) c.new-rule.ensures

pub returns-clause-verdict : goal.returns-clause-verdict
returns-clause-verdict c =
    let b = (goal.at.returns-clause-verdict c).After-verdict-verdict in
    judging c.args.store.now c.args.page c.requires c.whole.ensures (known b) (stay b) (rw (c.new-rule.ensures, c.listed-due.ensures) at c.verdict-verdict.ensures)

pub returns-clause-planned : goal.returns-clause-planned
returns-clause-planned c =
    let b = (goal.at.returns-clause-planned c).After-verdict-verdict in
    record { lists = known b; shares = c.find_share.ensures; stay = stay b }
