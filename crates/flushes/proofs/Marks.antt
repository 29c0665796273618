-- The page's mark once the due snapshots are archived, and the copies of them: beyond the mark none serves, so a look shows the page.
use Prim.Native.Nat.{ℕ, ◌<◌, max}
use mathlib.Core.Path.{◌≡◌, refl, ap, sym, ◌∙◌}
use mathlib.Core.List.{List, [], ◌∷◌, ◌++◌, map}
use native.Mathlib.Omega.{arith}
use lib.Dec.{ltb, eqb}
use borrow.Author.Tests.{ltb-true, eq-eqb, lt-leb}
use Rattle.model.specs.Store.{Store, Copy, page16, object_at, page_of, mark, unserved, oldest, look, served_or, as_of, page_as_of}
use Rattle.model.specs.Changes.{due_b, dues, copy_at, copies_after}
use Rattle.tables.proofs.Cases.{by_test}
use Rattle.tables.proofs.Searches.{both_left}
use Rattle.views.proofs.Pages.{page_length, page_at_lem, page_of_lem}
use Rattle.flushes.specs.Parts.{top}

-- ---- the mark
mark_append : (cs ds : List Copy) (p : ℕ) → mark (cs ++ ds) p ≡ max (mark cs p) (mark ds p)
mark_append [] ds p = omega arith
mark_append (c ∷ cs) ds p =
    let ih = mark_append cs ds p in
    by_test (eqb c.page p) (λ e. rw e (omega arith)) (λ e. rw e ih)

module _ (st : Store) (p : ℕ) where
  mark_copies : (ds : List ℕ) → mark (map (copy_at st p) ds) p ≡ top ds
  mark_copies [] = refl
  mark_copies (s ∷ ds) = rw (eq-eqb p p refl, mark_copies ds)

  pub mark_after : mark (copies_after st p) p ≡ max (mark st.copies p) (top (dues st p st.snapshots))
  unfolding copies_after
  mark_after = mark_append st.copies (map (copy_at st p) (dues st p st.snapshots)) p ∙ ap (max (mark st.copies p)) (mark_copies (dues st p st.snapshots))

-- ---- copies of stamps beyond the mark
unserved_beyond : (p s : ℕ) (cs : List Copy) → mark cs p < s → oldest p s cs ≡ unserved
unserved_beyond p s [] h = refl
unserved_beyond p s (c ∷ cs) h =
    by_test (eqb c.page p)
    (λ e.
    let l : max c.stamp (mark cs p) < s = rw e at h in
    rw (e, lt-leb s c.stamp (omega arith)) (unserved_beyond p s cs (omega arith)))
    (λ e. rw e (unserved_beyond p s cs (rw e at h)))

-- the page looked up
abbrev pub looked : Store → ℕ → ℕ → Copy
looked st p s = record { page = p; stamp = s; values = page16 (λ k. (look st (object_at p k) s).value) }

module _ (st : Store) (p : ℕ) where
  seen_value : (s k : ℕ) → mark st.copies p < s → k < 16 → (look st (object_at p k) s).value ≡ as_of st (object_at p k) s
  seen_value s k h b =
      let e : page_of (object_at p k) ≡ p = omega arith in
      let u : oldest (page_of (object_at p k)) s st.copies ≡ unserved = rw e (unserved_beyond p s st.copies h) in
      sym (ap (λ x. served_or x (object_at p k) (look st (object_at p k) s).value) u)

  copy_looked : (s : ℕ) → mark st.copies p < s → looked st p s ≡ copy_at st p s
  unfolding page_as_of
  copy_looked s h =
      let f : ℕ → ℕ = λ k. (look st (object_at p k) s).value in
      let e = page_of_lem (page16 f) (λ k. as_of st (object_at p k) s) (page_length f) (λ k b. page_at_lem f k b ∙ seen_value s k h b) in
      ap (λ (l : List ℕ). record { page = p; stamp = s; values = l }) e

  pub copies_looked : (ns : List ℕ) → map (looked st p) (dues st p ns) ≡ map (copy_at st p) (dues st p ns)
  copies_looked [] = refl
  copies_looked (s ∷ ns) =
      let ih = copies_looked ns in
      by_test (due_b st p s ns)
      (λ e. rw (e, copy_looked s (ltb-true (mark st.copies p) s (both_left (ltb (mark st.copies p) s) _ e)), ih))
      (λ e. rw (e, ih))
