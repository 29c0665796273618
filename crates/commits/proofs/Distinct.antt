-- A list that names no object twice; and a write of one object, which leaves every other object's entry as it was.
use Prim.Native.Nat.{ℕ, ◌<◌}
use mathlib.Core.Path.{◌≡◌, refl}
use mathlib.Core.Bool.{Bool, true, false}
use mathlib.Core.List.{List, [], ◌∷◌, map}
use lib.Dec.{eqb, ltb}
use lib.ListN.{length, get_or}
use borrow.Author.Tests.{eqb-true, eqb-false, ne_eqb, ltb-true}
use Rattle.model.specs.declared.Pending.{Pending}
use Rattle.model.specs.Lists.{either, elem_b, twice_b, all_b}
use Rattle.model.specs.Store.{lookup}
use Rattle.model.specs.Changes.{put}
use Rattle.tables.proofs.Cases.{by_test, clash}
use Rattle.tables.proofs.Searches.{all_at}

either_false : (a b : Bool) → either a b ≡ false → (a ≡ false) × (b ≡ false)
either_false true b e = clash e
either_false false b e = (refl, e)

-- the first of a list that names no object twice is not named by the rest, which names none twice
pub once_rest : (o : ℕ) (os : List ℕ) → twice_b (o ∷ os) ≡ false → (elem_b o os ≡ false) × (twice_b os ≡ false)
once_rest o os e = either_false (elem_b o os) (twice_b os) e

-- what agrees on all but o is the same over a list that doesn't name o
pub map_off : {A : Type 0} (f g : ℕ → A) (o : ℕ) → ((x : ℕ) → eqb x o ≡ false → f x ≡ g x) → (os : List ℕ) → elem_b o os ≡ false → map f os ≡ map g os
map_off f g o s [] e = refl
map_off f g o s (x ∷ xs) e =
    let p = either_false (eqb x o) (elem_b o xs) e in
    rw (s x p.0, map_off f g o s xs p.1)

module _ (o t v x : ℕ) (n : eqb x o ≡ false) where
  other : (y : ℕ) → y ≡ o → eqb y x ≡ false
  other y e = ne_eqb y x (λ z. eqb-false x o n (rw (← z) e))

  pub lookup_other : (es : List Pending) → lookup x (put o t v es) ≡ lookup x es
  lookup_other [] = rw (other o refl)
  lookup_other (e ∷ es) =
      let ih = lookup_other es in
      by_test (eqb e.object o)
      (λ q. rw (q, other e.object (eqb-true _ _ q)))
      (λ q. rw (q, ih))

-- each object has a place in the index
pub low : (os : List ℕ) → all_b (λ o. ltb o 512) os ≡ true → (k : ℕ) → k < length os → get_or os k 0 < 512
low os r k b = ltb-true (get_or os k 0) 512 (all_at (λ o. ltb o 512) os k 0 b r)
