-- The page's words on disk, below its past rows unless the view is current, below its pending entries.
use mathlib.Core.Path.{◌≡◌, sym, ap, ◌∙◌}
use borrow.Author.Rules.{rules}
use Rattle.model.specs.Store.{page16, slot_of, past_seen, pending_seen}
use Rattle.model.specs.Changes.{of_page}
use Rattle.tables.specs.Rows.{past_of, pending_of, pasts, pendings}
use mathlib.Core.List.{[]}
use Rattle.views.specs.Rows.{covers_by, shows_by}
use Rattle.views.specs.Views.{part_of, lay}
use Rattle.views.proofs.Sights.{below_entries, below_now, below_past, sight_page}
use Rattle.shares.specs.Shares.{row_of_page, rows_at}
use Rattle.shares.proofs.Laying.{lay_listed}
use Rattle.shares.proofs.look.look_at.Goals as goal
use Rattle.shares.proofs.look.look_at.Goals.{Joined-is_some, else-is_some, then-is_some}

-- what the pending entries are laid over
under : (c : Joined-is_some) → c.if-is_some.out ≡ page16 (λ k. part_of c.args.v.word (below_entries c.args.w.now c.args.h c.args.v k))
under c =
    let a = c.args in
    let v = a.v in
    let d = c.lay_disk.ensures in
    (elim c.if-is_some.branch [
      | then-is_some b ↦ b.out-is ∙ b.lay_numbered.ensures
          ∙ ap (λ ns. lay (covers_by v.as_of) (λ q. slot_of q.object) (λ q. part_of v.word (past_seen q)) (rows_at (past_of []) (pasts a.w.now.past) ns) c.lay_disk.new.out) b.listed.ensures
          ∙ lay_listed (covers_by v.as_of) (λ q. slot_of q.object) (λ q. part_of v.word (past_seen q)) (past_of []) (pasts a.w.now.past) a.share.now.rows.items (row_of_page v.page) a.h.past c.requires.shared.0.past_rows c.lay_disk.new.out
          ∙ below_past a.w.now a.h v d
      | else-is_some b ↦ b.out-is ∙ below_now a.w.now a.h v d (sym c.is_some.ensures ∙ b.if-is_some.false)
    ])

pub returns : goal.returns
returns c snapshots copies copied =
    let a = c.args in
    let v = a.v in
    c.lay_numbered-2.ensures
    ∙ ap (λ ns. lay (shows_by v.as_of) (λ e. slot_of e.object) (λ e. part_of v.word (pending_seen e)) (rows_at (pending_of []) (pendings a.w.now.pending) ns) c.if-is_some.out) c.listed-2.ensures
    ∙ lay_listed (shows_by v.as_of) (λ e. slot_of e.object) (λ e. part_of v.word (pending_seen e)) (pending_of []) (pendings a.w.now.pending) a.share.now.entries.items (of_page v.page) a.h.pending c.requires.shared.0.entries c.if-is_some.out
    ∙ sight_page a.w.now a.h v (record { pending_rows = search rules; past_rows = search rules }) c.requires.lookable (under (goal.at.returns c).Joined-is_some) snapshots copies copied
