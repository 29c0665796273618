-- A test of a list, asked from a place i on: what a turn of a loop at i leaves of it, where a turn settles it, and what it is at the end.
use Prim.Native.Nat.{ℕ, zero, suc, ◌+◌, ◌<◌, ◌≤◌}
use mathlib.Core.Path.{◌≡◌, refl, sym}
use mathlib.Core.Bool.{Bool, true, false, true≢false}
use mathlib.Core.List.{List, [], ◌∷◌}
use native.Mathlib.Numerals.{add-one}
use native.Mathlib.Omega.{arith}
use lib.ListN.{length, drop, get_or, drop_of_length-le}
use lib.Seq.{drop-cons}
use lib.Dec.{ltb, leb}
use Rattle.std.specs.List.{list_all}
use borrow.Author.Tests.{ltb-true}
use Rattle.model.specs.Judgement.{objects_shaped}
use Rattle.rules.proofs.Marks.{by_test}
use Rattle.model.specs.Lists.{both, all_b, rising_from}

-- ---- all pass
both_left : (a b : Bool) → both a b ≡ true → a ≡ true
both_left true b e = refl
both_left false b e = e

both_right : (a b : Bool) → both a b ≡ true → b ≡ true
both_right true b e = e
both_right false b e = absurd (true≢false (sym e))

module _ {A : Type 0} (f : A → Bool) (l : List A) (i : ℕ) (d : A) (h : i < length l) where
  pub all_next : f (get_or l i d) ≡ true → all_b f (drop i l) ≡ all_b f (drop (i + 1) l)
  all_next e = rw (add-one, drop-cons l i d, e)

  pub all_stop : f (get_or l i d) ≡ false → all_b f (drop i l) ≡ false
  all_stop e = rw (drop-cons l i d, e)

module _ {A : Type 0} (f : A → Bool) (l : List A) (i : ℕ) (h : length l ≤ i) where
  pub all_end : all_b f (drop i l) ≡ true
  all_end = rw (drop_of_length-le l h)

-- as the library asks it
pub all_listed : {A : Type 0} (f : A → Bool) (l : List A) → list_all f l ≡ all_b f l
all_listed f [] = refl
all_listed f (x ∷ l) = by_test (f x) (λ t. rw t (all_listed f l)) (λ t. rw t)

-- where all objects are the store's, each is
pub object_low : (l : List ℕ) (i : ℕ) → i < length l → all_b (λ o. ltb o 512) l ≡ true → get_or l i 0 < 512
object_low [] i h e = absurd (omega arith)
object_low (x ∷ xs) zero h e = ltb-true x 512 (both_left (ltb x 512) (all_b (λ o. ltb o 512) xs) e)
object_low (x ∷ xs) (suc i) h e = object_low xs i (omega arith) (both_right (ltb x 512) (all_b (λ o. ltb o 512) xs) e)

-- objects in shape are the store's
pub shaped_low : (os : List ℕ) → objects_shaped os ≡ true → all_b (λ o. ltb o 512) os ≡ true
unfolding objects_shaped
shaped_low os e = both_right (both (leb 1 (length os)) (leb (length os) 16)) (all_b (λ o. ltb o 512) os) e

-- ---- strictly ascending, each beyond lo and at most hi
abbrev pub within : ℕ → ℕ → List ℕ → Bool
within lo hi l = both (rising_from lo l) (all_b (λ s. leb s hi) l)

-- with a bound on the last one so far
abbrev pub bounded : ℕ → ℕ → List ℕ → Bool
bounded lo hi l = both (leb lo hi) (within lo hi l)
