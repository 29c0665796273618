-- The copies that a flush adds show the truth, step by step along the known snapshots.
use Prim.Native.Nat.{ℕ, ◌≤◌, ◌<◌, max}
use mathlib.Core.Path.{◌≡◌, refl, ap, ◌∙◌}
use mathlib.Core.Bool.{Bool, true, false}
use mathlib.Core.List.{List, [], ◌∷◌, map}
use native.Mathlib.Nat.{le_refl}
use native.Mathlib.Omega.{arith}
use lib.ListN.{get_or}
use lib.Dec.{ltb, eqb}
use borrow.Author.Tests.{ltb-true, ltb-false, eqb-true, lt-ltb, le-leb, lt-leb, eq-eqb}
use Rattle.model.specs.declared.Seen.{Seen}
use Rattle.model.specs.Lists.{elem_b}
use Rattle.model.specs.Store.{Copy, Store, object_at, page_of, slot_of, some_slot, mark, by, oldest, look, as_of, page_as_of}
use Rattle.model.specs.Changes.{due_b, dues, copy_at}
use Rattle.history.proofs.Laws.{by_test, clash, both_left, either_cases, pick_all}
use Rattle.history.specs.Words.{All}
use Rattle.history.proofs.Lists.{Rising, all_map, all_every, all_mapped, all_elem, elem_all, get_d_page, no_slot}
use Rattle.history.proofs.Invariant.{ServedBy, SoundAt}
use Rattle.history.proofs.Sound.{needed_known, look_true, read_true}
use Rattle.history.proofs.Copies.{mark_least, oldest_least, oldest_low, served_first}

-- ---- the due snapshots
module _ (st : Store) (p : ℕ) where
  pub all_dues : (P : ℕ → Type 0) (ns : List ℕ) → All P ns → All P (dues st p ns)
  all_dues P [] h = tt
  all_dues P (s ∷ ns) h = let ih = all_dues P ns h.1 in pick_all (All P) (due_b st p s ns) (λ e. (h.0, ih)) (λ e. ih)

  pub dues_beyond : (ns : List ℕ) → All (λ s. mark st.copies p < s) (dues st p ns)
  dues_beyond [] = tt
  dues_beyond (s ∷ ns) =
      let ih = dues_beyond ns in
      pick_all (All (λ x. mark st.copies p < x)) (due_b st p s ns)
      (λ e. (ltb-true (mark st.copies p) s (both_left (ltb (mark st.copies p) s) _ e), ih))
      (λ e. ih)

  abbrev pub copied : List ℕ → List Copy
  copied ns = map (copy_at st p) (dues st p ns)

  pub copied_page : (ns : List ℕ) → All (λ c. c.page ≡ p) (copied ns)
  copied_page ns = all_mapped (λ c. c.page ≡ p) (copy_at st p) (dues st p ns) (all_every (λ s. p ≡ p) (λ s. refl) (dues st p ns))

  pub copied_all : (P : ℕ → Type 0) (ns : List ℕ) → All P ns → All (λ c. P c.stamp) (copied ns)
  copied_all P ns h = all_mapped (λ c. P c.stamp) (copy_at st p) (dues st p ns) (all_dues P ns h)

-- ---- the copies that a flush adds show the truth, step by step along the known snapshots
module _ (o : ℕ) (L : ℕ → Seen) (st : Store) (k : SoundAt o L st) where
  abbrev pub own : ℕ
  own = page_of o

  abbrev pub here : ℕ
  here = mark st.copies own

  place : object_at own (slot_of o) ≡ o
  place = omega arith

  slot : slot_of o < 16
  slot = omega arith

  copy_true : (s : ℕ) → elem_b s st.snapshots ≡ true → get_or (copy_at st own s).values (slot_of o) 0 ≡ (L s).value
  unfolding page_as_of
  copy_true s e = get_d_page (slot_of o) (λ i. as_of st (object_at own i) s) slot ∙ ap (λ x. as_of st x s) place ∙ read_true o L st k s e

  -- a snapshot that isn't due shows what the next one shows
  undue : (s n : ℕ) (ns : List ℕ) → due_b st own s (n ∷ ns) ≡ false → here < s → s < n → elem_b n st.snapshots ≡ true → L s ≡ L n
  undue s n ns d b l e =
      let f : ℕ → Bool = λ i. ltb s (look st (object_at own i) n).stamp in
      let g : some_slot f ≡ false = rw (lt-ltb here s b) at d in
      let u = ltb-false s (look st (object_at own (slot_of o)) n).stamp (no_slot (slot_of o) f g slot) in
      let v : (look st (object_at own (slot_of o)) n).stamp ≡ (L n).stamp =
      ap (λ x. (look st x n).stamp) place ∙ ap (λ x. x.stamp) (look_true o L st k n (needed_known st.horizon st.snapshots here n e (omega arith))) in
      k.truth.same s n (omega arith) (omega arith)

  abbrev pub Chained : List ℕ → Type 0
  Chained ns = (s : ℕ) → elem_b s ns ≡ true → here < s → s ≤ mark (copied st own ns) own → ServedBy (L s).value o (oldest own s (copied st own ns))

  abbrev pub Known : List ℕ → Type 0
  Known ns = All (λ s. elem_b s st.snapshots ≡ true) ns

  chain_undue : (x : ℕ) (xs : List ℕ) → Chained xs → Rising (x ∷ xs) → Known xs → due_b st own x xs ≡ false → here < x → x ≤ mark (copied st own xs) own
      → ServedBy (L x).value o (oldest own x (copied st own xs))
  chain_undue x [] ih r a d b l = absurd (omega arith)
  chain_undue x (n ∷ ns) ih r a d b l =
      let lt = r.0.0 in
      let cs = copied st own (n ∷ ns) in
      let least : All (λ c. n ≤ c.stamp) cs = copied_all st own (λ y. n ≤ y) (n ∷ ns) (le_refl n, all_map (λ y (h : n < y). omega arith) ns r.1.0) in
      rw (undue x n ns d b lt a.0, oldest_low n own x n cs least (omega arith) (le_refl n))
      (ih n (elem_all (n ∷ ns)).0 (omega arith) (mark_least n cs own least (omega arith)))

  pub chain : (ns : List ℕ) → Rising ns → Known ns → Chained ns
  chain [] r a s e b l = clash false e refl
  chain (x ∷ xs) r a s e b l =
      let ih = chain xs r.1 a.1 in
      let cs = copied st own xs in
      let same = eq-eqb own own refl in
      by_test (due_b st own x xs)
      (λ d.
      either_cases (eqb x s) (elem_b s xs) e
      (λ q.
      let t : x ≡ s = eqb-true x s q in
      rw (d, same, le-leb s x (omega arith))
      (served_first x (L s).value o (by (copy_at st own x)) (oldest own s cs) (copy_true x a.0 ∙ ap (λ y. (L y).value) t) (le_refl x)
      (oldest_least x own s cs (copied_all st own (λ y. x ≤ y) xs (all_map (λ y (h : x < y). omega arith) xs r.0)))))
      (λ q.
      let lt = all_elem (λ y. x < y) s xs q r.0 in
      let m : s ≤ max x (mark cs own) = rw (d, same) at l in
      rw (d, same, lt-leb s x lt) (ih s q b (omega arith))))
      (λ d.
      let m : s ≤ mark cs own = rw d at l in
      rw d
      (either_cases (eqb x s) (elem_b s xs) e
      (λ q.
      let t : x ≡ s = eqb-true x s q in
      rw (← t) (chain_undue x xs ih r a.1 d (omega arith) (omega arith)))
      (λ q. ih s q b m)))
