-- A search from the first row on: one turn, and the end.
use Prim.Native.Nat.{ℕ, zero, suc, ◌+◌, ◌<◌, ◌≤◌}
use mathlib.Core.Path.{◌≡◌, refl, sym}
use mathlib.Core.Bool.{Bool, true, false}
use mathlib.Core.List.{List, [], ◌∷◌}
use native.Mathlib.Numerals.{add-one}
use native.Mathlib.Omega.{arith}
use lib.ListN.{length, take, drop, get_or, length-take, drop_of_length-le}
use lib.Seq.{slice-cons}
use Rattle.model.specs.Lists.{both, any_b, all_b}
use Rattle.tables.proofs.Cases.{clash}

module _ {A : Type 0} (f : A → Bool) (n : ℕ) (l : List A) (i : ℕ) (d : A) (h : i < n) (k : n ≤ length l) where
  pub any_no : f (get_or l i d) ≡ false → any_b f (drop i (take n l)) ≡ any_b f (drop (i + 1) (take n l))
  any_no e = rw (add-one, slice-cons i n l d, e)

  pub any_yes : f (get_or l i d) ≡ true → any_b f (drop i (take n l)) ≡ true
  any_yes e = rw (slice-cons i n l d, e)

-- nothing is left behind the last of n
pub drop_end : {A : Type 0} (n : ℕ) (l : List A) (i : ℕ) → n ≤ i → drop i (take n l) ≡ []
drop_end n l i h = let e : length (take n l) ≤ i = simp length-take (omega arith) in drop_of_length-le (take n l) e

pub any_end : {A : Type 0} (f : A → Bool) (n : ℕ) (l : List A) (i : ℕ) → n ≤ i → any_b f (drop i (take n l)) ≡ false
any_end f n l i h = rw (drop_end n l i h)

-- where all rows pass, each does
pub both_left : (a b : Bool) → both a b ≡ true → a ≡ true
both_left true b e = refl
both_left false b e = e

pub both_right : (a b : Bool) → both a b ≡ true → b ≡ true
both_right true b e = e
both_right false b e = clash (sym e)

pub all_at : {A : Type 0} (f : A → Bool) (l : List A) (i : ℕ) (d : A) → i < length l → all_b f l ≡ true → f (get_or l i d) ≡ true
all_at f [] i d h e = absurd (omega arith)
all_at f (x ∷ xs) zero d h e = both_left (f x) (all_b f xs) e
all_at f (x ∷ xs) (suc i) d h e = all_at f xs i d (omega arith) (both_right (f x) (all_b f xs) e)
