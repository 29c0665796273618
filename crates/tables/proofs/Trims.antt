-- The first n rows without those at their end that don't pass: a turn of the search for how many they are, the last row left, and what is passed by.
use Prim.Native.Nat.{ℕ, zero, suc, ◌-◌, ◌<◌, ◌≤◌}
use mathlib.Core.Path.{◌≡◌, refl, ap, sym, ◌∙◌, subst}
use mathlib.Core.Bool.{Bool, true, false}
use mathlib.Core.List.{List}
use native.Mathlib.Omega.{arith}
use lib.ListN.{get_or}
use lib.Dec.{eqb}
use borrow.Author.Tests.{eqb-true, eqb-false}
use Rattle.model.specs.Lists.{pick}
use Rattle.tables.specs.Lookups.{trimmed}
use Rattle.tables.proofs.Cases.{by_test}

pub before : (i : ℕ) → suc i - 1 ≡ i
before i = omega arith

-- what holds of the number picked
picked : (P : ℕ → Type 0) (b : Bool) (x y : ℕ) → (b ≡ true → P x) → (b ≡ false → P y) → P (pick b x y)
picked P true x y f g = f refl
picked P false x y f g = g refl

module _ {A : Type 0} (f : A → Bool) (d : A) (l : List A) where
  -- the rows up to one that passes, where none behind it does
  pub trimmed_is : (n r : ℕ) → r ≤ n → (0 < r → f (get_or l (r - 1) d) ≡ true) → ((i : ℕ) → r ≤ i → i < n → f (get_or l i d) ≡ false) → r ≡ trimmed f d l n
  trimmed_is zero r h p q = omega arith
  trimmed_is (suc n) r h p q =
      by_test (eqb r (suc n))
      (λ e. let s : r ≡ suc n = eqb-true r (suc n) e in let t : r - 1 ≡ n = omega arith in s ∙ sym (ap (λ b. pick b (suc n) (trimmed f d l n)) (ap (λ i. f (get_or l i d)) (sym t) ∙ p (omega arith))))
      (λ e. let s = eqb-false r (suc n) e in
      let m : r ≤ n = omega arith in
      trimmed_is n r m p (λ i a b. q i a (omega arith)) ∙ sym (ap (λ b. pick b (suc n) (trimmed f d l n)) (q n m (omega arith))))

  -- the last row left passes
  trim_last : (n : ℕ) → 0 < trimmed f d l n → f (get_or l (trimmed f d l n - 1) d) ≡ true
  trim_last zero h = absurd (omega arith)
  trim_last (suc n) h =
      let ih = trim_last n in
      picked (λ k. 0 < k → f (get_or l (k - 1) d) ≡ true) (f (get_or l n d)) (suc n) (trimmed f d l n) (λ e g. subst (λ j. f (get_or l j d) ≡ true) (sym (before n)) e) (λ e. ih) h

  pub trim_passes : (n : ℕ) {r : ℕ} → r ≡ trimmed f d l n → 0 < r → f (get_or l (r - 1) d) ≡ true
  trim_passes n e = rw e (trim_last n)

  -- what no row that doesn't pass changes
  pub trim_keeps : (P : ℕ → Type 0) (n : ℕ) → ((i : ℕ) → i < n → f (get_or l i d) ≡ false → P (suc i) → P i) → P n → P (trimmed f d l n)
  trim_keeps P zero g p = p
  trim_keeps P (suc n) g p =
      let ih = trim_keeps P n (λ i h. g i (omega arith)) in
      picked P (f (get_or l n d)) (suc n) (trimmed f d l n) (λ e. p) (λ e. ih (g n (omega arith) e p))
