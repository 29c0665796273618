-- After the past rows or the pending entries are laid, a slot's word is what the model looks up for its object.
use Prim.Native.Nat.{ℕ, ◌≤◌, ◌<◌}
use mathlib.Core.Path.{◌≡◌, refl, ap, sym, ◌∙◌}
use mathlib.Core.Bool.{Bool, true, false}
use mathlib.Core.List.{List, [], ◌∷◌, map}
use native.Mathlib.Omega.{arith}
use lib.ListN.{length, take, get_or}
use lib.Dec.{eqb, leb}
use borrow.Author.Tests.{eqb-true}
use Rattle.std.proofs.Common.{Option, Some, None}
use Rattle.model.specs.declared.Seen.{Seen}
use Rattle.model.specs.declared.Pending.{Pending}
use Rattle.model.specs.declared.Past.{Past}
use Rattle.model.specs.Lists.{both, either, pick, elem_b, twice_b}
use Rattle.model.specs.Store.{Slot, none, some, object_at, page_of, slot_of, lookup, look_of, current_of, span_or, in_span, holds_b, pending_seen, past_seen}
use Rattle.tables.specs.Rows.{pending_at}
use Rattle.tables.specs.Lookups.{find_pending, row_of, Indexed}
use Rattle.tables.proofs.Bridges.{found_row, lookup_row, lookup_none}
use Rattle.tables.proofs.Cases.{by_test, clash}
use Rattle.views.specs.declared.Word.{Word}
use Rattle.views.specs.declared.View.{View}
use Rattle.views.specs.Rows.{covers_by, shows_by}
use Rattle.views.specs.Views.{part_of, covers_b, shows_b, lay}
use Rattle.views.proofs.Laying.{word_or, lay_at}
use Rattle.views.proofs.Slots.{object_test}

-- ---- the rows and the entries that a view shows
abbrev pub pasts_over : View → List Past → List ℕ → List ℕ
pasts_over v = lay (covers_b v) (λ q. slot_of q.object) (λ q. part_of v.word (past_seen q))

abbrev pub pendings_over : View → List Pending → List ℕ → List ℕ
pendings_over v = lay (shows_b v) (λ e. slot_of e.object) (λ e. part_of v.word (pending_seen e))

-- ---- what the model looks up, as of a stamp or now: under the entries, and over them
abbrev pub spanned : Option ℕ → ℕ → List Past → Seen → Seen
spanned None o qs d = d
spanned (Some s) o qs d = span_or o s qs d

abbrev pub topped : Option ℕ → Slot → Seen → Seen
topped None x d = current_of x d
topped (Some s) x d = look_of x s d

-- a slot's word with its object's entry over w
abbrev pub entry_over : View → Slot → ℕ → ℕ
entry_over v none w = w
entry_over v (some e) w = pick (shows_by v.as_of e) (part_of v.word (pending_seen e)) w

part_pick : (word : Word) (b : Bool) (x d : Seen) → pick b (part_of word x) (part_of word d) ≡ part_of word (pick b x d)
part_pick word true x d = refl
part_pick word false x d = refl

entry_topped : (v : View) (t : Option ℕ) → v.as_of ≡ t → (x : Slot) (d : Seen) → entry_over v x (part_of v.word d) ≡ part_of v.word (topped t x d)
entry_topped v None e none d = refl
entry_topped v None e (some x) d = rw e
entry_topped v (Some s) e none d = refl
entry_topped v (Some s) e (some x) d = rw e (part_pick v.word (leb x.latest s) (pending_seen x) d)

either_none : (a b : Bool) → either a b ≡ false → (a ≡ false) × (b ≡ false)
either_none true b h = clash h
either_none false b h = (refl, h)

-- behind an entry stands no other of its object
alone : (o : ℕ) (es : List Pending) → elem_b o (map (λ e. e.object) es) ≡ false → lookup o es ≡ none
alone o [] h = refl
alone o (e ∷ es) h = by_test (eqb e.object o) (λ q. clash (rw q at h)) (λ q. rw q (alone o es (rw q at h)))

module _ (v : View) (k : ℕ) (h : k < 16) where
  pub past_shown : (t : Option ℕ) → v.as_of ≡ t → (d : Seen) (qs : List Past)
      → word_or (covers_b v) (λ q. slot_of q.object) (λ q. part_of v.word (past_seen q)) k qs (part_of v.word d)
      ≡ part_of v.word (spanned t (object_at v.page k) qs d)
  past_shown None e d [] = refl
  past_shown (Some s) e d [] = refl
  past_shown None e d (q ∷ qs) =
      let ih = past_shown None e d qs in
      rw (object_test q.object v.page k (covers_by v.as_of q) h, e) (by_test (eqb q.object (object_at v.page k)) (λ z. rw z ih) (λ z. rw z ih))
  past_shown (Some s) e d (q ∷ qs) =
      let ih = past_shown (Some s) e d qs in
      rw (object_test q.object v.page k (covers_by v.as_of q) h, e)
      (by_test (holds_b (object_at v.page k) s q) (λ z. rw z) (λ z. rw z ih))

  pub entry_shown : (w : ℕ) (es : List Pending) → twice_b (map (λ e. e.object) es) ≡ false
      → word_or (shows_b v) (λ e. slot_of e.object) (λ e. part_of v.word (pending_seen e)) k es w ≡ entry_over v (lookup (object_at v.page k) es) w
  entry_shown w [] t = refl
  entry_shown w (e ∷ es) t =
      let o = object_at v.page k in
      let z = either_none (elem_b e.object (map (λ e. e.object) es)) (twice_b (map (λ e. e.object) es)) t in
      let ih = entry_shown w es z.1 in
      rw (object_test e.object v.page k (shows_by v.as_of e) h)
      (by_test (eqb e.object o)
      (λ q. rw (q, ih, alone o es (rw (eqb-true e.object o q) at z.0)))
      (λ q. rw q ih))

  pub pending_shown : (t : Option ℕ) → v.as_of ≡ t → (d : Seen) (es : List Pending) → twice_b (map (λ e. e.object) es) ≡ false
      → word_or (shows_b v) (λ e. slot_of e.object) (λ e. part_of v.word (pending_seen e)) k es (part_of v.word d)
      ≡ part_of v.word (topped t (lookup (object_at v.page k) es) d)
  pending_shown t e d es u = entry_shown (part_of v.word d) es u ∙ entry_topped v t e (lookup (object_at v.page k) es) d

-- ---- a row below n is the object's entry, and any other tells that it has none
module _ (o : ℕ) (es : List Pending) (n : ℕ) (l : n ≤ length es) where
  found_entry : (f : Option ℕ) → find_pending o (take n es) ≡ f → n ≤ 128 → row_of f < n → lookup o (take n es) ≡ some (pending_at es (row_of f))
  found_entry (Some i) e m h = lookup_row o es n i l e
  found_entry None e m h = absurd (omega arith)

  found_none : (f : Option ℕ) → find_pending o (take n es) ≡ f → n ≤ row_of f → lookup o (take n es) ≡ none
  found_none (Some i) e h = absurd (omega (arith, found_row o es n i l e))
  found_none None e h = lookup_none o (take n es) e

-- ---- a slot's word after the entries are laid, by the row that the index tells for the slot's object
module _ (v : View) (k : ℕ) (h : k < 16) (p : v.page < 32) {index : List ℕ} (es : List Pending) (n : ℕ) (x : Indexed index (take n es))
    (t : twice_b (map (λ e. e.object) (take n es)) ≡ false) (m : n ≤ 128) (l : n ≤ length es) (out : List ℕ) (g : length out ≡ 16) where
  word_at : get_or (pendings_over v (take n es) out) k 0 ≡ entry_over v (lookup (object_at v.page k) (take n es)) (get_or out k 0)
  word_at =
      lay_at (shows_b v) (λ e. slot_of e.object) (λ e. part_of v.word (pending_seen e)) (take n es) out k (rw g h)
      ∙ entry_shown v k h (get_or out k 0) (take n es) t

  row_at : get_or index (object_at v.page k) 0 ≡ row_of (find_pending (object_at v.page k) (take n es))
  row_at = x.row_at (object_at v.page k) (omega arith)

  pub slot_shown : get_or index (object_at v.page k) 0 < n → {e : Pending} → e ≡ pending_at es (get_or index (object_at v.page k) 0)
      → get_or (pendings_over v (take n es) out) k 0 ≡ pick (shows_by v.as_of e) (part_of v.word (pending_seen e)) (get_or out k 0)
  slot_shown b q =
      let o = object_at v.page k in
      let f = found_entry o es n l (find_pending o (take n es)) refl m (rw row_at at b) in
      word_at ∙ ap (λ s. entry_over v s (get_or out k 0)) (f ∙ ap some (ap (pending_at es) (sym row_at) ∙ sym q))

  pub slot_bare : n ≤ get_or index (object_at v.page k) 0 → get_or (pendings_over v (take n es) out) k 0 ≡ get_or out k 0
  slot_bare b =
      let o = object_at v.page k in
      word_at ∙ ap (λ s. entry_over v s (get_or out k 0)) (found_none o es n l (find_pending o (take n es)) refl (rw row_at at b))
