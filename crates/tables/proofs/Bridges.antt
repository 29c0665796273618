-- From what the searches and the compaction answer to the model's definitions, for the code above.
use Rattle.std.specs.Prelude.{Option, Some, None}
use Prim.Native.Nat.{ℕ, zero, suc, ◌+◌, ◌-◌, ◌≤◌, ◌<◌}
use mathlib.Core.Path.{◌≡◌, refl, ap, ◌∙◌, subst}
use mathlib.Core.Bool.{Bool, true, false}
use mathlib.Core.List.{List, [], ◌∷◌, ◌++◌}
use native.Mathlib.Numerals.{add-one}
use native.Mathlib.Omega.{arith}
use lib.ListN.{length, take, drop, get_or, set}
use lib.Seq.{length-take-le, get_or-take, take-set-lt, take-suc-set}
use lib.Dec.{eqb, ltb, leb}
use borrow.Author.Tests.{lt-ltb, leb-false}
use Rattle.model.specs.declared.Pending.{Pending}
use Rattle.model.specs.declared.Past.{Past}
use Rattle.model.specs.Limits.{pages}
use Rattle.model.specs.Lists.{pick, any_b, all_b, kept}
use Rattle.model.specs.Store.{Copy, Slot, none, some, mark, lookup, page_of, live_b}
use Rattle.model.specs.Changes.{put}
use Rattle.tables.specs.declared.CopyHead.{CopyHead}
use Rattle.tables.specs.Rows.{pending_of, pending_at, touched, copies_of}
use Rattle.tables.specs.Lookups.{first_at, pick_found, find_pending, stays_by}
use Rattle.tables.proofs.Cases.{by_test, clash}

-- ---- the entry at an index, and what a write leaves
abbrev pub opened : ℕ → ℕ → ℕ → Pending
opened o t v = record { object = o; first = t; latest = t; value = v }

abbrev EntryP : ℕ → ℕ → ℕ → List Pending → ℕ → Option ℕ → Slot → List Pending → Type 0
EntryP o t v es k (Some i) x us =
    (k ≤ i) × (i < k + length es) × (x ≡ some (pending_at es (i - k))) × (us ≡ set es (i - k) (touched (pending_at es (i - k)) t v))
EntryP o t v es k None x us = (x ≡ none) × (us ≡ es ++ (opened o t v ∷ []))

module _ (o t v : ℕ) where
  entry_step : (e : Pending) (es : List Pending) (k : ℕ) (b : Bool) (f : Option ℕ) (x : Slot) (us : List Pending) → EntryP o t v es (suc k) f x us
      → EntryP o t v (e ∷ es) k (pick_found b (Some k) f) (pick b (some e) x) (pick b (touched e t v ∷ es) (e ∷ us))
  entry_step e es k true f x us h = let z : k - k ≡ 0 = omega arith in (omega arith, omega arith, rw z, rw z)
  entry_step e es k false (Some i) x us h =
      let z : i - k ≡ suc (i - suc k) = omega arith in
      (omega arith, omega arith, rw z h.2, rw z (ap (λ l. e ∷ l) h.3))
  entry_step e es k false None x us h = (h.0, ap (λ l. e ∷ l) h.1)

  entry_is : (es : List Pending) (k : ℕ) → EntryP o t v es k (first_at (λ e. eqb e.object o) es k) (lookup o es) (put o t v es)
  entry_is [] k = (refl, refl)
  entry_is (e ∷ es) k =
      let ih = entry_is es (suc k) in
      entry_step e es k (eqb e.object o) (first_at (λ e. eqb e.object o) es (suc k)) (lookup o es) (put o t v es) ih

  entry_found : (es : List Pending) {f : Option ℕ} → find_pending o es ≡ f → EntryP o t v es 0 f (lookup o es) (put o t v es)
  entry_found es e = subst (λ (f : Option ℕ). EntryP o t v es 0 f (lookup o es) (put o t v es)) e (entry_is es 0)

  pub put_at : (es : List Pending) (i : ℕ) → find_pending o es ≡ Some i → put o t v es ≡ set es i (touched (pending_at es i) t v)
  put_at es i e = let z : i - 0 ≡ i = omega arith in rw z at (entry_found es e).3

  pub put_none : (es : List Pending) → find_pending o es ≡ None → put o t v es ≡ es ++ (opened o t v ∷ [])
  put_none es e = (entry_found es e).1

module _ (o : ℕ) (es : List Pending) where
  pub found_below : (i : ℕ) → find_pending o es ≡ Some i → i < length es
  found_below i e = let h = entry_found o 0 0 es e in omega arith

  pub lookup_at : (i : ℕ) → find_pending o es ≡ Some i → lookup o es ≡ some (pending_at es i)
  lookup_at i e = let z : i - 0 ≡ i = omega arith in rw z at (entry_found o 0 0 es e).2

  pub lookup_none : find_pending o es ≡ None → lookup o es ≡ none
  lookup_none e = (entry_found o 0 0 es e).0

-- the same of the first n rows of a table: the entry's row is written over, or the next row is taken
module _ (o : ℕ) (es : List Pending) (n i : ℕ) (l : n ≤ length es) (e : find_pending o (take n es) ≡ Some i) where
  pub found_row : i < n
  found_row = omega (arith, found_below o (take n es) i e, length-take-le n es l)

  pub lookup_row : lookup o (take n es) ≡ some (pending_at es i)
  lookup_row = lookup_at o (take n es) i e ∙ ap some (get_or-take n es i (pending_of []) found_row)

  pub put_row : (t v : ℕ) → put o t v (take n es) ≡ take n (set es i (touched (pending_at es i) t v))
  put_row t v = rw (take-set-lt n es i _ found_row, ← get_or-take n es i (pending_of []) found_row) (put_at o t v (take n es) i e)

pub put_next : (o t v : ℕ) (es : List Pending) (n : ℕ) → n < length es → find_pending o (take n es) ≡ None
    → put o t v (take n es) ≡ take (n + 1) (set es n (opened o t v))
put_next o t v es n l e = rw (add-one, take-suc-set es n (opened o t v) l) (put_none o t v (take n es) e)

-- ---- what stays, where the marks are those of the copies
pub kept_same : {A : Type 0} (f g : A → Bool) → ((x : A) → f x ≡ g x) → (l : List A) → kept f l ≡ kept g l
kept_same f g e [] = refl
kept_same f g e (x ∷ xs) = rw (e x, kept_same f g e xs)

module _ (h : ℕ) (known marks : List ℕ) (cs : List Copy) (m : (p : ℕ) → get_or marks p 0 ≡ mark cs p) where
  pub stays_every : (q : Past) → stays_by None h known marks q ≡ live_b h known cs q
  stays_every q = rw (m (page_of q.object))

  pub kept_every : (qs : List Past) → kept (stays_by None h known marks) qs ≡ kept (live_b h known cs) qs
  kept_every qs = kept_same (stays_by None h known marks) (live_b h known cs) stays_every qs

-- ---- copies whose pages are in range, as heads
pub pages_in : (n : ℕ) (hs : List CopyHead) (words : List ℕ) → any_b (λ (c : Copy). leb pages c.page) (take n (copies_of hs words)) ≡ false
    → all_b (λ (c : CopyHead). ltb c.page 32) (take n hs) ≡ true
pages_in zero hs words e = refl
pages_in (suc n) [] words e = refl
pages_in (suc n) (h ∷ hs) words e =
    let ih = pages_in n hs (drop 16 words) in
    by_test (leb 32 h.page)
    (λ t. clash (rw t at e))
    (λ t. rw (lt-ltb h.page 32 (leb-false 32 h.page t)) (ih (rw t at e)))
