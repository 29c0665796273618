-- The copies after a flush, and what is still needed then.
use Prim.Native.Nat.{ℕ, ◌≤◌, max}
use mathlib.Core.Path.{◌≡◌, ap, sym, ◌∙◌}
use mathlib.Core.Bool.{true, false, not}
use mathlib.Core.List.{List, ◌++◌, map}
use native.Mathlib.Omega.{arith}
use lib.Dec.{eqb}
use Rattle.model.specs.declared.Past.{Past}
use Rattle.model.specs.Lists.{any_b, kept}
use Rattle.model.specs.Store.{Copy, Store, page_of, mark, holds_b, older, oldest}
use Rattle.model.specs.Changes.{copies_after, of_page, buried, stays_b, flush_store}
use Rattle.history.proofs.Laws.{either_right, either_none}
use Rattle.history.proofs.Lists.{any_append, any_kept}
use Rattle.history.proofs.Invariant.{needed_b, Whole}
use Rattle.history.proofs.Sound.{needed_cases, needed_beyond, needed_known, live_needed}
use Rattle.history.proofs.Copies.{mark_append, mark_bound, mark_other, oldest_other, older_none, oldest_append}
use Rattle.history.proofs.Dues.{copied, copied_page, copied_all}

module _ (st : Store) (p : ℕ) where
  abbrev pub news : List Copy
  news = copied st p st.snapshots

  pub mark_after : (q : ℕ) → mark (copies_after st p) q ≡ max (mark st.copies q) (mark news q)
  unfolding copies_after
  mark_after q = mark_append st.copies news q

  pub oldest_after : (q s : ℕ) → oldest q s (copies_after st p) ≡ older (oldest q s st.copies) (oldest q s news)
  unfolding copies_after
  oldest_after q s = oldest_append q s st.copies news

  pub mark_away : (q : ℕ) → eqb q p ≡ false → mark (copies_after st p) q ≡ mark st.copies q
  mark_away q n =
      let z = mark_other p q news (copied_page st p st.snapshots) n in
      mark_after q ∙ omega arith

  pub oldest_away : (q s : ℕ) → eqb q p ≡ false → oldest q s (copies_after st p) ≡ oldest q s st.copies
  oldest_away q s n =
      oldest_after q s ∙ ap (older (oldest q s st.copies)) (oldest_other p q s news (copied_page st p st.snapshots) n) ∙ older_none (oldest q s st.copies)

  pub marks_after : Whole st → (q : ℕ) → mark (copies_after st p) q ≤ st.horizon
  marks_after a q =
      omega (arith, mark_after q, a.marks q, mark_bound st.horizon news q (copied_all st p (λ s. s ≤ st.horizon) st.snapshots a.known))

  -- what is needed afterwards was needed before
  pub needed_after : (q s : ℕ) → needed_b st.horizon st.snapshots (mark (copies_after st p) q) s ≡ true
      → needed_b st.horizon st.snapshots (mark st.copies q) s ≡ true
  needed_after q s n =
      let z = mark_after q in
      needed_cases st.horizon st.snapshots (mark (copies_after st p) q) s n
      (λ l. needed_beyond st.horizon st.snapshots (mark st.copies q) s l)
      (λ e l. needed_known st.horizon st.snapshots (mark st.copies q) s e (omega arith))

  -- no row that holds a needed stamp is dropped
  abbrev pub graves : List Past
  graves = map (buried st) (kept (of_page p) st.pending)

  pub none_after : (o s : ℕ) → needed_b st.horizon st.snapshots (mark (copies_after st p) (page_of o)) s ≡ true
      → any_b (holds_b o s) (flush_store st p).past ≡ false → (any_b (holds_b o s) st.past ≡ false) × (any_b (holds_b o s) graves ≡ false)
  unfolding flush_store
  none_after o s n e =
      let cs = copies_after st p in
      let keeps : (q : Past) → holds_b o s q ≡ true → stays_b st.horizon st.snapshots cs p q ≡ true =
      λ q h. either_right (not (eqb (page_of q.object) p)) (live_needed st.horizon st.snapshots cs o s q n h) in
      either_none (any_b (holds_b o s) st.past) (any_b (holds_b o s) graves)
      (sym (any_append (holds_b o s) st.past graves)
      ∙ sym (any_kept (holds_b o s) (stays_b st.horizon st.snapshots cs p) keeps (st.past ++ graves)) ∙ e)
