-- Stamps that ascend: from any lower bound too, and behind each one only later ones. So a bound parts them, and those beyond it ascend behind any up to it.
use Prim.Native.Nat.{ℕ, zero, suc, ◌<◌, ◌≤◌}
use mathlib.Core.Path.{◌≡◌, refl, ap}
use mathlib.Core.Bool.{true}
use mathlib.Core.List.{List, [], ◌∷◌, ◌++◌}
use native.Mathlib.Omega.{arith}
use lib.ListN.{length, drop, get_or}
use lib.Seq.{drop-cons}
use lib.Dec.{ltb, leb}
use borrow.Author.Tests.{lt-ltb, le-ltb, lt-leb, ltb-true, leb-true}
use Rattle.model.specs.Lists.{all_b, kept, rising_from}
use Rattle.tables.proofs.Cases.{by_test}
use Rattle.tables.proofs.Searches.{both_left, both_right}
use Rattle.tables.proofs.Rising.{first_beyond, rest_rises, rising_beyond, rises_low}

-- the others ascend from the bound too
others_low : (p x : ℕ) (xs : List ℕ) → rising_from p (x ∷ xs) ≡ true → rising_from p xs ≡ true
others_low p x xs r = rises_low x p xs (rest_rises p x xs r) (omega (arith, first_beyond p x xs r))

-- none is up to the bound, and all are beyond it
none_up_to : (u : ℕ) (xs : List ℕ) → rising_from u xs ≡ true → kept (λ s. leb s u) xs ≡ []
none_up_to u [] r = refl
none_up_to u (x ∷ xs) r = rw (lt-leb x u (first_beyond u x xs r)) (none_up_to u xs (others_low u x xs r))

all_beyond : (u : ℕ) (xs : List ℕ) → rising_from u xs ≡ true → kept (ltb u) xs ≡ xs
all_beyond u [] r = refl
all_beyond u (x ∷ xs) r = rw (lt-ltb u x (first_beyond u x xs r)) (ap (λ l. x ∷ l) (all_beyond u xs (others_low u x xs r)))

-- ---- from a stamp beyond the bound on
rises_behind : (p : ℕ) (xs : List ℕ) (i : ℕ) → i < length xs → rising_from p xs ≡ true → rising_from (get_or xs i 0) (drop (suc i) xs) ≡ true
rises_behind p [] i h r = absurd (omega arith)
rises_behind p (x ∷ xs) zero h r = rest_rises p x xs r
rises_behind p (x ∷ xs) (suc i) h r = rises_behind x xs i (omega arith) (rest_rises p x xs r)

pub rises_drop : (p : ℕ) (xs : List ℕ) (i : ℕ) → rising_from p xs ≡ true → rising_from 0 (drop i xs) ≡ true
rises_drop p xs zero r = rises_low p 0 xs r (omega arith)
rises_drop p [] (suc i) r = refl
rises_drop p (x ∷ xs) (suc i) r = rises_drop x xs i (rest_rises p x xs r)

module _ (u p : ℕ) (xs : List ℕ) (i : ℕ) (h : i < length xs) (r : rising_from p xs ≡ true) (b : u < get_or xs i 0) where
  tail_rises : rising_from u (drop i xs) ≡ true
  tail_rises = rw (drop-cons xs i 0 h, lt-ltb u (get_or xs i 0) b) (rises_behind p xs i h r)

  pub rest_none : kept (λ s. leb s u) (drop i xs) ≡ []
  rest_none = none_up_to u (drop i xs) tail_rises

  pub rest_all : kept (ltb u) (drop i xs) ≡ drop i xs
  rest_all = all_beyond u (drop i xs) tail_rises

-- ---- up to a stamp within the bound
pub none_beyond : (u p : ℕ) (xs : List ℕ) (i : ℕ) → i < length xs → rising_from p xs ≡ true → get_or xs i 0 ≤ u → kept (ltb u) xs ≡ kept (ltb u) (drop (suc i) xs)
none_beyond u p [] i h r b = absurd (omega arith)
none_beyond u p (x ∷ xs) zero h r b = rw (le-ltb u x b)
none_beyond u p (x ∷ xs) (suc i) h r b =
    let o = rest_rises p x xs r in
    let l = rising_beyond x xs o i (omega arith) in
    rw (le-ltb u x (omega arith)) (none_beyond u x xs i (omega arith) o b)

-- ---- those beyond a horizon, behind those up to it
beyond_rises : (h p : ℕ) (xs : List ℕ) → rising_from p xs ≡ true → rising_from h (kept (ltb h) xs) ≡ true
beyond_rises h p [] r = refl
beyond_rises h p (x ∷ xs) r =
    let o = rest_rises p x xs r in
    let ih = beyond_rises h x xs o in
    by_test (ltb h x) (λ e. rw (e, e, all_beyond h xs (rises_low x h xs o (omega (arith, ltb-true h x e)))) o) (λ e. rw e ih)

rises_append : (h lo : ℕ) (xs ys : List ℕ) → lo ≤ h → rising_from lo xs ≡ true → all_b (λ s. leb s h) xs ≡ true → rising_from h ys ≡ true → rising_from lo (xs ++ ys) ≡ true
rises_append h lo [] ys l r a k = rises_low h lo ys k l
rises_append h lo (x ∷ xs) ys l r a k =
    let u = leb-true x h (both_left (leb x h) (all_b (λ s. leb s h) xs) a) in
    let ih = rises_append h x xs ys u (rest_rises lo x xs r) (both_right (leb x h) (all_b (λ s. leb s h) xs) a) k in
    rw (lt-ltb lo x (first_beyond lo x xs r)) ih

pub known_rises : (h p : ℕ) (known stamps : List ℕ) → rising_from 0 known ≡ true → all_b (λ s. leb s h) known ≡ true → rising_from p stamps ≡ true
    → rising_from 0 (known ++ kept (ltb h) stamps) ≡ true
known_rises h p known stamps r a k = rises_append h 0 known (kept (ltb h) stamps) (omega arith) r a (beyond_rises h p stamps k)
