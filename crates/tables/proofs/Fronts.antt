-- The first n rows that are there are a front of the first n rows by a count: what holds of all of these holds of those too.
use Prim.Native.Nat.{ℕ, zero, suc}
use mathlib.Core.Path.{◌≡◌, refl, sym}
use mathlib.Core.Bool.{Bool, true, false}
use mathlib.Core.List.{List, [], ◌∷◌, map}
use lib.ListN.{take}
use lib.Dec.{ltb, eqb}
use Rattle.model.specs.Lists.{any_b, all_b, elem_b, twice_b, rising_from}
use Rattle.tables.specs.Rows.{up_to}
use Rattle.tables.proofs.Cases.{by_test, clash}

module _ {A : Type 0} (d : A) where
  pub any_front : (f : A → Bool) (n : ℕ) (l : List A) → any_b f (up_to d n l) ≡ false → any_b f (take n l) ≡ false
  any_front f zero l e = refl
  any_front f (suc n) [] e = refl
  any_front f (suc n) (x ∷ xs) e =
      let ih = any_front f n xs in
      by_test (f x) (λ t. clash (rw t at e)) (λ t. rw t (ih (rw t at e)))

  pub all_front : (f : A → Bool) (n : ℕ) (l : List A) → all_b f (up_to d n l) ≡ true → all_b f (take n l) ≡ true
  all_front f zero l e = refl
  all_front f (suc n) [] e = refl
  all_front f (suc n) (x ∷ xs) e =
      let ih = all_front f n xs in
      by_test (f x) (λ t. rw t (ih (rw t at e))) (λ t. clash (sym (rw t at e)))

  elem_front : (f : A → ℕ) (o n : ℕ) (l : List A) → elem_b o (map f (up_to d n l)) ≡ false → elem_b o (map f (take n l)) ≡ false
  elem_front f o zero l e = refl
  elem_front f o (suc n) [] e = refl
  elem_front f o (suc n) (x ∷ xs) e =
      let ih = elem_front f o n xs in
      by_test (eqb (f x) o) (λ t. clash (rw t at e)) (λ t. rw t (ih (rw t at e)))

  pub twice_front : (f : A → ℕ) (n : ℕ) (l : List A) → twice_b (map f (up_to d n l)) ≡ false → twice_b (map f (take n l)) ≡ false
  twice_front f zero l e = refl
  twice_front f (suc n) [] e = refl
  twice_front f (suc n) (x ∷ xs) e =
      let ih = twice_front f n xs in
      let other = elem_front f (f x) n xs in
      by_test (elem_b (f x) (map f (up_to d n xs))) (λ t. clash (rw t at e)) (λ t. rw (other t) (ih (rw t at e)))

pub rising_front : (p n : ℕ) (l : List ℕ) → rising_from p (up_to 0 n l) ≡ true → rising_from p (take n l) ≡ true
rising_front p zero l e = refl
rising_front p (suc n) [] e = refl
rising_front p (suc n) (x ∷ xs) e =
    let ih = rising_front x n xs in
    by_test (ltb p x) (λ t. rw t (ih (rw t at e))) (λ t. clash (sym (rw t at e)))
