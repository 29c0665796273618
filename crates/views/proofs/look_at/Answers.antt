-- The page's words on disk, below the past rows unless the view is current, below the pending entries.
use mathlib.Core.Path.{◌≡◌, sym, ◌∙◌}
use borrow.Author.Rules.{rules}
use Rattle.model.specs.Store.{page16, slot_of, pending_seen}
use Rattle.tables.specs.Rows.{pendings}
use Rattle.views.specs.Views.{part_of, shows_b}
use Rattle.views.proofs.Laying.{lay_none}
use Rattle.views.proofs.Sights.{Sized, below_entries, below_now, below_past, sight_page}
use Rattle.views.proofs.look_at.Goals as goal
use Rattle.views.proofs.look_at.Goals.{Joined-is_some, else-is_some, then-is_some}

sized : (c : Joined-is_some) → Sized c.args.w.now
sized c = record { pending_rows = search rules; past_rows = search rules }

-- what the pending entries are laid over
under : (c : Joined-is_some) → c.if-is_some.out ≡ page16 (λ k. part_of c.args.view.word (below_entries c.args.w.now c.args.h c.args.view k))
under c =
    let a = c.args in
    let d = c.lay_disk.ensures in
    (elim c.if-is_some.branch [
      | then-is_some b ↦ b.out-is ∙ b.lay_pasts.ensures ∙ below_past a.w.now a.h a.view d
      | else-is_some b ↦ b.out-is ∙ below_now a.w.now a.h a.view d (sym c.is_some.ensures ∙ b.if-is_some.false)
    ])

pub returns-then-h-gt0 : goal.returns-then-h-gt0
returns-then-h-gt0 c snapshots copies copied =
    let a = c.args in
    let j = (goal.at.returns-then-h-gt0 c).Joined-is_some in
    c.lay_pendings.ensures ∙ sight_page a.w.now a.h a.view (sized j) c.requires.lookable (under j) snapshots copies copied

pub returns-else-h-gt0 : goal.returns-else-h-gt0
returns-else-h-gt0 c snapshots copies copied =
    let a = c.args in
    let v = a.view in
    let j = (goal.at.returns-else-h-gt0 c).Joined-is_some in
    lay_none (shows_b v) (λ e. slot_of e.object) (λ e. part_of v.word (pending_seen e)) a.h.pending (pendings a.w.now.pending) c.if-is_some.out c.if-h-gt0.false
    ∙ sight_page a.w.now a.h v (sized j) c.requires.lookable (under j) snapshots copies copied
