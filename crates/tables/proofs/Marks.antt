-- Marks: those of the copies from a row on, whatever words they hold, after one copy more; of one page, by a stamp, and by page number.
use Prim.Native.Nat.{ℕ, zero, suc, ◌-◌, ◌<◌, ◌≤◌, max}
use mathlib.Core.Path.{◌≡◌, refl, sym, ap, subst}
use mathlib.Core.Bool.{true}
use mathlib.Core.List.{List, [], ◌∷◌}
use native.Mathlib.Omega.{arith}
use lib.ListN.{length, take, drop, get_or, set, replicate}
use lib.Seq.{get_or-take, length-take-le, get_or-set_same, get_or-set_other}
use lib.Dec.{eqb, ltb, leb}
use borrow.Author.Tests.{eq-eqb, ne_eqb, eqb-true, eqb-false, ltb-true, le-leb}
use Rattle.model.specs.Lists.{pick, all_b}
use Rattle.model.specs.Store.{Copy, mark}
use Rattle.tables.specs.declared.CopyHead.{CopyHead}
use Rattle.tables.specs.Rows.{copy_head_of, copies_of, copy_head_at}
use Rattle.tables.specs.Lookups.{trimmed}
use Rattle.tables.proofs.Cases.{by_test}
use Rattle.tables.proofs.Searches.{all_at}
use Rattle.tables.proofs.Backward.{Turn, back_start, back_cons, back_end}
use Rattle.tables.proofs.Trims.{before, trim_passes, trim_keeps}
use Rattle.tables.proofs.Copies.{no_copy, copy_page, copy_stamp, copies_turn}

-- the mark of the copies from row i on
abbrev pub mark_from : List CopyHead → ℕ → ℕ → List ℕ → ℕ → ℕ
mark_from hs n i words p = mark (drop i (take n (copies_of hs words))) p

pub mark_start : (hs : List CopyHead) (n : ℕ) (words : List ℕ) (p : ℕ) → 0 ≡ mark_from hs n n words p
mark_start hs n words p = rw (back_start n (copies_of hs words))

pub mark_end : (hs : List CopyHead) (n i : ℕ) (words : List ℕ) (p : ℕ) → i ≤ 0 → mark_from hs n i words p ≡ mark (take n (copies_of hs words)) p
mark_end hs n i words p h = rw (back_end i (take n (copies_of hs words)) h)

-- fewer copies, no larger mark
mark_drop : (i : ℕ) (cs : List Copy) (p : ℕ) → mark (drop i cs) p ≤ mark cs p
mark_drop zero cs p = omega arith
mark_drop (suc i) [] p = omega arith
mark_drop (suc i) (c ∷ cs) p =
    let ih = mark_drop i cs p in
    by_test (eqb c.page p) (λ e. rw e (omega arith)) (λ e. rw e ih)

module _ {hs : List CopyHead} {n i : ℕ} (t : Turn hs n i) {x : CopyHead} (r : x ≡ copy_head_at hs (i - 1)) where
  mark_turn : (words : List ℕ) (p : ℕ)
      → mark_from hs n (i - 1) words p ≡ pick (eqb x.page p) (max x.stamp (mark_from hs n i words p)) (mark_from hs n i words p)
  mark_turn words p =
      rw (back_cons (copies_turn t words) no_copy, copy_page hs words (i - 1), copy_stamp hs words (i - 1), r)

  -- one page's mark
  module _ (p : ℕ) {best : ℕ} (v : (words : List ℕ) → best ≡ mark_from hs n i words p) where
    pub mark_more : x.page ≡ p → (words : List ℕ) → max best x.stamp ≡ mark_from hs n (i - 1) words p
    mark_more e words = let w = v words in rw (mark_turn words p, eq-eqb _ _ e) (omega arith)

    mark_other : (x.page ≡ p → ⊥) → (words : List ℕ) → best ≡ mark_from hs n (i - 1) words p
    mark_other e words = rw (mark_turn words p, ne_eqb _ _ e) (v words)

  -- whether one page's mark is at a stamp s or behind it
  module _ (p s : ℕ) where
    pub mark_reaches : x.page ≡ p → s ≤ x.stamp → (words : List ℕ) → true ≡ leb s (mark (take n (copies_of hs words)) p)
    mark_reaches e b words =
        let m = mark_drop (i - 1) (take n (copies_of hs words)) p in
        let w : x.stamp ≤ mark_from hs n (i - 1) words p = rw (mark_turn words p, eq-eqb _ _ e) (omega arith) in
        sym (le-leb s (mark (take n (copies_of hs words)) p) (omega arith))

    module _ (v : (words : List ℕ) → mark_from hs n i words p < s) where
      pub short_early : x.stamp < s → (words : List ℕ) → mark_from hs n (i - 1) words p < s
      short_early b words = let w = v words in by_test (eqb x.page p) (λ e. rw (mark_turn words p, e) (omega arith)) (λ e. rw (mark_turn words p, e) w)

      pub short_other : (x.page ≡ p → ⊥) → (words : List ℕ) → mark_from hs n (i - 1) words p < s
      short_other e words = rw (mark_turn words p, ne_eqb _ _ e) (v words)

  -- every page's
  pub page_in : (w : ℕ) → all_b (λ (c : CopyHead). ltb c.page w) (take n hs) ≡ true → x.page < w
  page_in w a =
      let b : i - 1 < n = omega arith in
      let l : i - 1 < length (take n hs) = rw (length-take-le n hs t.rows) b in
      let e = all_at (λ (c : CopyHead). ltb c.page w) (take n hs) (i - 1) (copy_head_of []) l a in
      ltb-true _ _ (rw r (rw (get_or-take n hs (i - 1) (copy_head_of []) b) at e))

  module _ (marks : List ℕ) (q : x.page < length marks) (v : (words : List ℕ) (p : ℕ) → get_or marks p 0 ≡ mark_from hs n i words p) where
    pub marks_new : get_or marks x.page 0 < x.stamp → (words : List ℕ) (p : ℕ) → get_or (set marks x.page x.stamp) p 0 ≡ mark_from hs n (i - 1) words p
    marks_new b words p =
        let w = v words x.page in
        by_test (eqb x.page p)
        (λ e. rw (mark_turn words p, e, ← eqb-true x.page p e, get_or-set_same marks x.page x.stamp 0 q) (omega arith))
        (λ e. rw (mark_turn words p, e, get_or-set_other marks x.page p x.stamp 0 (λ f. eqb-false _ _ e (sym f))) (v words p))

    pub marks_old : x.stamp ≤ get_or marks x.page 0 → (words : List ℕ) (p : ℕ) → get_or marks p 0 ≡ mark_from hs n (i - 1) words p
    marks_old b words p =
        let w = v words x.page in
        by_test (eqb x.page p)
        (λ e. rw (mark_turn words p, e, ← eqb-true x.page p e) (omega arith))
        (λ e. rw (mark_turn words p, e) (v words p))

-- ---- the first i rows without the other pages' at their end
module _ (hs : List CopyHead) (i p : ℕ) {j : ℕ} (e : j ≡ trimmed (λ (c : CopyHead). eqb c.page p) (copy_head_of []) hs i) where
  pub trimmed_page : 0 < j → (copy_head_at hs (j - 1)).page ≡ p
  trimmed_page h = eqb-true _ _ (trim_passes (λ (c : CopyHead). eqb c.page p) (copy_head_of []) hs i e h)

  pub mark_trimmed : {best : ℕ} (n : ℕ) → i ≤ n → n ≤ length hs → ((words : List ℕ) → best ≡ mark_from hs n i words p) → (words : List ℕ) → best ≡ mark_from hs n j words p
  mark_trimmed {best} n h l v =
      subst (λ (k : ℕ). (words : List ℕ) → best ≡ mark_from hs n k words p) (sym e)
      (trim_keeps (λ (c : CopyHead). eqb c.page p) (copy_head_of []) hs (λ k. (words : List ℕ) → best ≡ mark_from hs n k words p) i
      (λ k g z w.
      let t : Turn hs n (suc k) = record { left = omega arith; inside = omega arith; rows = l } in
      subst (λ (m : ℕ). (words : List ℕ) → best ≡ mark_from hs n m words p) (before k) (mark_other t (ap (copy_head_at hs) (sym (before k))) p w (eqb-false _ _ z)))
      v)

-- ---- marks that are all 0
pub zeros : (n k : ℕ) → let z : ℕ = 0 in get_or (replicate n z) k z ≡ z
zeros zero k = refl
zeros (suc n) zero = refl
zeros (suc n) (suc k) = zeros n k
