-- Each test that hits settles it; a later one is asked where none before it hits.
use mathlib.Core.Path.{◌≡◌, ◌∙◌, sym, ap}
use mathlib.Core.Bool.{not}
use borrow.Author.Rules.{rules}
use lib.ListN.{take}
use lib.Dec.{leb}
use Rattle.model.specs.Lists.{either, any_b}
use Rattle.tables.specs.Rows.{pendings, pasts, copy_heads, copies_of}
use Rattle.tables.proofs.Rows.{copies_length}
use Rattle.damage.proofs.Laws.{hit, pass, over_count, sifted}
use Rattle.damage.proofs.out_of_range.Goals as goal
use Rattle.damage.proofs.out_of_range.Goals.{then-overfull, else-overfull, then-pending_out, else-pending_out, then-past_out, else-past_out}

pub returns-then-copies_out : goal.returns-then-copies_out
returns-then-copies_out c =
    let s = c.args.store.now in
    let a : c.if-overfull.value ≡ either (over_count s.heads) (any_b (λ e. leb 512 e.object) (take s.heads.pending (pendings s.written.pending))) =
    elim c.if-overfull.branch [
      | then-overfull w ↦ w.value-is ∙ w.if-overfull.true ∙ hit _ (sym c.overfull.ensures ∙ w.if-overfull.true)
      | else-overfull w ↦ w.value-is ∙ pass (sym c.overfull.ensures ∙ w.if-overfull.false) w.pending_out.ensures
    ] in
    let b : c.if-pending_out.value ≡ either c.if-overfull.value (any_b (λ q. leb 512 q.object) (take s.heads.past (pasts s.written.past))) =
    elim c.if-pending_out.branch [
      | then-pending_out w ↦ w.value-is ∙ w.if-pending_out.true ∙ hit _ w.if-pending_out.true
      | else-pending_out w ↦ w.value-is ∙ pass w.if-pending_out.false w.past_out.ensures
    ] in
    let d : c.if-past_out.value ≡ either c.if-pending_out.value (any_b (λ k. leb 32 k.page) (take s.heads.copies (copies_of (copy_heads s.copies) s.copied))) =
    elim c.if-past_out.branch [
      | then-past_out w ↦ w.value-is ∙ w.if-past_out.true ∙ hit _ w.if-past_out.true
      | else-past_out w ↦ w.value-is ∙ pass w.if-past_out.false (w.copies_out.ensures s.copied)
    ] in
    let e = rw (b, a) at d in
    sifted s c.rows.ensures.0 c.rows.ensures.1 (search rules) (copies_length _ _ (search rules)) (c.if-copies_out.true ∙ hit _ (sym e ∙ c.if-copies_out.true))

pub returns-else-copies_out : goal.returns-else-copies_out
returns-else-copies_out c =
    let s = c.args.store.now in
    let a : c.if-overfull.value ≡ either (over_count s.heads) (any_b (λ e. leb 512 e.object) (take s.heads.pending (pendings s.written.pending))) =
    elim c.if-overfull.branch [
      | then-overfull w ↦ w.value-is ∙ w.if-overfull.true ∙ hit _ (sym c.overfull.ensures ∙ w.if-overfull.true)
      | else-overfull w ↦ w.value-is ∙ pass (sym c.overfull.ensures ∙ w.if-overfull.false) w.pending_out.ensures
    ] in
    let b : c.if-pending_out.value ≡ either c.if-overfull.value (any_b (λ q. leb 512 q.object) (take s.heads.past (pasts s.written.past))) =
    elim c.if-pending_out.branch [
      | then-pending_out w ↦ w.value-is ∙ w.if-pending_out.true ∙ hit _ w.if-pending_out.true
      | else-pending_out w ↦ w.value-is ∙ pass w.if-pending_out.false w.past_out.ensures
    ] in
    let d : c.if-past_out.value ≡ either c.if-pending_out.value (any_b (λ k. leb 32 k.page) (take s.heads.copies (copies_of (copy_heads s.copies) s.copied))) =
    elim c.if-past_out.branch [
      | then-past_out w ↦ w.value-is ∙ w.if-past_out.true ∙ hit _ w.if-past_out.true
      | else-past_out w ↦ w.value-is ∙ pass w.if-past_out.false (w.copies_out.ensures s.copied)
    ] in
    let e = rw (b, a) at d in
    sifted s c.rows.ensures.0 c.rows.ensures.1 (search rules) (copies_length _ _ (search rules)) (pass (sym e ∙ c.if-copies_out.false) (ap not c.ascending_within.ensures))
