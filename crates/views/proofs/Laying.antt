-- Rows laid over words: a turn from the last row to the first, and what then stands at each slot.
use Prim.Native.Nat.{ℕ, zero, suc, ◌-◌, ◌≤◌, ◌<◌}
use mathlib.Core.Path.{◌≡◌, refl, ap, sym, ◌∙◌, subst}
use mathlib.Core.Bool.{Bool, false}
use mathlib.Core.List.{List, [], ◌∷◌}
use native.Mathlib.Omega.{arith}
use lib.ListN.{length, take, drop, get_or, set, length-set}
use lib.Seq.{get_or-set_same, get_or-set_other}
use lib.Dec.{eqb}
use borrow.Author.Tests.{eqb-true, eqb-false}
use Rattle.model.specs.Lists.{both, pick}
use Rattle.model.specs.Store.{page16}
use Rattle.tables.specs.Lookups.{trimmed}
use Rattle.tables.proofs.Backward.{Turn, back_cons}
use Rattle.tables.proofs.Trims.{trim_keeps}
use Rattle.tables.proofs.Cases.{by_test}
use Rattle.views.specs.Views.{lay}
use Rattle.views.proofs.Pages.{page_length, page_at_lem, page_of_lem}

-- ---- a word put at a slot where a test passes
module _ (b : Bool) (out : List ℕ) (k x : ℕ) where
  pub put_length : {y : List ℕ} {n : ℕ} → y ≡ pick b (set out k x) out → length out ≡ n → length y ≡ n
  put_length e q = ap length e ∙ by_test b (λ z. rw (z, length-set) q) (λ z. rw z q)

-- ---- rows of any kind: the word of the first row that passes and has the slot, else w
abbrev pub word_or : {A : Type 0} → (A → Bool) → (A → ℕ) → (A → ℕ) → ℕ → List A → ℕ → ℕ
word_or f slot word k [] w = w
word_or f slot word k (x ∷ xs) w = pick (both (eqb (slot x) k) (f x)) (word x) (word_or f slot word k xs w)

module _ {A : Type 0} (f : A → Bool) (slot word : A → ℕ) where
  module _ {l : List A} {n i : ℕ} (t : Turn l n i) (d : A) (out₀ : List ℕ) {out : List ℕ} (v : out ≡ lay f slot word (drop i (take n l)) out₀) where
    pub lay_more : {x : A} {y : List ℕ} → x ≡ get_or l (i - 1) d → y ≡ pick (f x) (set out (slot x) (word x)) out → y ≡ lay f slot word (drop (i - 1) (take n l)) out₀
    lay_more p e = e ∙ rw (back_cons t d, ← p, v)

    pub lay_no : {x : A} → x ≡ get_or l (i - 1) d → f x ≡ false → out ≡ lay f slot word (drop (i - 1) (take n l)) out₀
    lay_no p e = rw (back_cons t d, ← p, e) v

  -- rows that a narrower test leaves out are passed by
  pub lay_trimmed : (g : A → Bool) → ((x : A) → g x ≡ false → f x ≡ false) → (d : A) (l : List A) (n i : ℕ) (out₀ : List ℕ) {r : ℕ} {out : List ℕ}
      → i ≤ n → n ≤ length l → r ≡ trimmed g d l i
      → out ≡ lay f slot word (drop i (take n l)) out₀ → out ≡ lay f slot word (drop r (take n l)) out₀
  lay_trimmed g other d l n i out₀ {r} {out} b h e v =
      let P : ℕ → Type 0 = λ j. out ≡ lay f slot word (drop j (take n l)) out₀ in
      subst P (sym e)
      (trim_keeps g d l P i
      (λ k m z u.
      let q : k ≡ suc k - 1 = omega arith in
      let t : Turn l n (suc k) = record { left = omega arith; inside = omega arith; rows = h } in
      subst P (sym q) (lay_no t d out₀ u (ap (λ j. get_or l j d) q) (other (get_or l k d) z)))
      v)

  pub lay_none : (n : ℕ) (l : List A) (out : List ℕ) → n ≤ 0 → out ≡ lay f slot word (take n l) out
  lay_none zero l out h = refl
  lay_none (suc n) l out h = absurd (omega arith)

  pub lay_length : (l : List A) (out : List ℕ) → length (lay f slot word l out) ≡ length out
  lay_length [] out = refl
  lay_length (x ∷ xs) out =
      let ih = lay_length xs out in
      by_test (f x) (λ e. rw (e, length-set) ih) (λ e. rw e ih)

  pub lay_at : (l : List A) (out : List ℕ) (k : ℕ) → k < length out → get_or (lay f slot word l out) k 0 ≡ word_or f slot word k l (get_or out k 0)
  lay_at [] out k h = refl
  lay_at (x ∷ xs) out k h =
      let ih = lay_at xs out k h in
      let m : k < length (lay f slot word xs out) = rw (lay_length xs out) h in
      by_test (f x)
      (λ e.
      by_test (eqb (slot x) k)
      (λ q. rw (e, q, eqb-true (slot x) k q) (get_or-set_same (lay f slot word xs out) k (word x) 0 m))
      (λ q. rw (e, q) (get_or-set_other (lay f slot word xs out) (slot x) k (word x) 0 (λ z. eqb-false (slot x) k q (sym z)) ∙ ih)))
      (λ e. by_test (eqb (slot x) k) (λ q. rw (e, q) ih) (λ q. rw (e, q) ih))

  pub lay_page : (l : List A) (x y : ℕ → ℕ) → ((k : ℕ) → k < 16 → word_or f slot word k l (x k) ≡ y k) → lay f slot word l (page16 x) ≡ page16 y
  lay_page l x y h =
      page_of_lem (lay f slot word l (page16 x)) y (lay_length l (page16 x) ∙ page_length x)
      (λ k b.
      let m : k < length (page16 x) = rw (page_length x) b in
      lay_at l (page16 x) k m ∙ ap (word_or f slot word k l) (page_at_lem x k b) ∙ h k b)
