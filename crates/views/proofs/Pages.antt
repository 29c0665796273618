-- Sixteen words by their slots: a list that is a page, those from a place on, and how they are copied and replaced.
use Prim.Native.Nat.{ℕ, zero, suc, ◌+◌, ◌≤◌, ◌<◌}
use mathlib.Core.Path.{◌≡◌, refl, ap, sym, ◌∙◌}
use mathlib.Core.Bool.{Bool}
use mathlib.Core.List.{List, ◌∷◌, ◌++◌, append-nil}
use native.Mathlib.Omega.{arith}
use native.Mathlib.Numerals.{add-one}
use lib.ListN.{length, take, drop, get_or, set, length-take, length-drop, drop_of_length-le}
use lib.Seq.{ext_get_or, get_or-take, get_or-drop, take_all, take-suc, drop-cons, append_snoc, set_at, length-take-le}
use Rattle.model.specs.Lists.{pick, tab}
use Rattle.model.specs.Store.{page16}
use Rattle.tables.proofs.Cases.{by_test}

tab_length : (n : ℕ) (f : ℕ → ℕ) → length (tab n f) ≡ n
tab_length zero f = refl
tab_length (suc n) f = ap suc (tab_length n (λ k. f (suc k)))

tab_at : (n k : ℕ) (f : ℕ → ℕ) → k < n → get_or (tab n f) k 0 ≡ f k
tab_at zero k f h = absurd (omega arith)
tab_at (suc n) zero f h = refl
tab_at (suc n) (suc k) f h = tab_at n k (λ i. f (suc i)) (omega arith)

pub page_length : (f : ℕ → ℕ) → length (page16 f) ≡ 16
unfolding page16
page_length f = tab_length 16 f

pub page_at_lem : (f : ℕ → ℕ) (k : ℕ) → k < 16 → get_or (page16 f) k 0 ≡ f k
unfolding page16
page_at_lem f k h = tab_at 16 k f h

-- a list of sixteen is the page of what stands at each slot
pub page_of_lem : (l : List ℕ) (f : ℕ → ℕ) → length l ≡ 16 → ((k : ℕ) → k < 16 → get_or l k 0 ≡ f k) → l ≡ page16 f
page_of_lem l f e h =
    ext_get_or 0 l (page16 f) (e ∙ sym (page_length f)) (λ k b. let m : k < 16 = omega arith in h k m ∙ sym (page_at_lem f k m))

pub page_same : (f g : ℕ → ℕ) → ((k : ℕ) → k < 16 → f k ≡ g k) → page16 f ≡ page16 g
page_same f g e = page_of_lem (page16 f) g (page_length f) (λ k h. page_at_lem f k h ∙ e k h)

pub page_cut : (words : List ℕ) (at : ℕ) → at + 16 ≤ length words → take 16 (drop at words) ≡ page16 (λ k. get_or words (at + k) 0)
page_cut words at h =
    page_of_lem (take 16 (drop at words)) (λ k. get_or words (at + k) 0) (simp (length-take, length-drop) (omega arith))
    (λ k b. get_or-take 16 (drop at words) k 0 b ∙ get_or-drop at words k 0)

-- ---- words replaced one by one: the first k of d by those of l
module _ (l d : List ℕ) (k : ℕ) {out : List ℕ} (o : out ≡ take k l ++ drop k d) where
  pub replace_more : length l ≡ length d → k < length d → {y : List ℕ} (b : Bool) (w : ℕ) → get_or l k 0 ≡ pick b w (get_or d k 0)
      → y ≡ pick b (set out k w) out → y ≡ take (k + 1) l ++ drop (k + 1) d
  replace_more e h b w g q =
      let m : k < length l = omega arith in
      let c : take (suc k) l ++ drop (suc k) d ≡ take k l ++ (get_or l k 0 ∷ drop (suc k) d) =
      rw (take-suc l k 0) (append_snoc (take k l) (get_or l k 0) (drop (suc k) d)) in
      let s : length (take k l) ≡ k = length-take-le k l (omega arith) in
      q ∙ rw (add-one, c, g, o, drop-cons d k 0) (by_test b (λ z. rw z (set_at (take k l) (get_or d k 0) (drop (suc k) d) w k s)) (λ z. rw z))

  pub replace_end : length l ≤ k → length d ≤ k → out ≡ l
  replace_end h m = o ∙ rw (take_all k l h, drop_of_length-le d m) (append-nil l)
