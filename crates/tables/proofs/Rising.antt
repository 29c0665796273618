-- Lists that ascend: their first, the others, each of them, and a lower bound.
use Prim.Native.Nat.{ℕ, zero, suc, ◌<◌, ◌≤◌}
use mathlib.Core.Path.{◌≡◌, refl}
use mathlib.Core.Bool.{true}
use mathlib.Core.List.{List, [], ◌∷◌}
use native.Mathlib.Omega.{arith}
use lib.ListN.{length, get_or}
use lib.Dec.{ltb}
use borrow.Author.Tests.{ltb-true, lt-ltb}
use Rattle.model.specs.Lists.{rising_from}
use Rattle.tables.proofs.Searches.{both_left, both_right}

pub first_beyond : (lo x : ℕ) (l : List ℕ) → rising_from lo (x ∷ l) ≡ true → lo < x
first_beyond lo x l a = ltb-true lo x (both_left (ltb lo x) (rising_from x l) a)

pub rest_rises : (lo x : ℕ) (l : List ℕ) → rising_from lo (x ∷ l) ≡ true → rising_from x l ≡ true
rest_rises lo x l a = both_right (ltb lo x) (rising_from x l) a

pub rising_beyond : (lo : ℕ) (l : List ℕ) → rising_from lo l ≡ true → (j : ℕ) → j < length l → lo < get_or l j 0
rising_beyond lo [] a j h = absurd (omega arith)
rising_beyond lo (x ∷ l) a zero h = first_beyond lo x l a
rising_beyond lo (x ∷ l) a (suc j) h =
    let f = first_beyond lo x l a in
    let ih = rising_beyond x l (rest_rises lo x l a) j (omega arith) in
    omega arith

pub rises_low : (p q : ℕ) (xs : List ℕ) → rising_from p xs ≡ true → q ≤ p → rising_from q xs ≡ true
rises_low p q [] r l = refl
rises_low p q (x ∷ xs) r l = rw (lt-ltb q x (omega (arith, first_beyond p x xs r))) (rest_rises p x xs r)
