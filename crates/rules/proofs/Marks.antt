-- Numbers met before are marked in a table: one that is met again stands twice in their list.
use Prim.Native.Nat.{ℕ, zero, suc, ◌+◌, ◌<◌}
use mathlib.Core.Path.{◌≡◌, refl, ap, sym}
use mathlib.Core.Bool.{Bool, true, false}
use mathlib.Core.List.{List, [], ◌∷◌}
use native.Mathlib.Numerals.{add-one}
use native.Mathlib.Omega.{arith}
use lib.ListN.{length, drop, get_or, set, replicate}
use lib.Seq.{drop-cons, get_or-set_same, get_or-set_other}
use lib.Dec.{eqb}
use borrow.Author.Tests.{eqb-true, eqb-false}
use Rattle.model.specs.Lists.{either, any_b, elem_b, twice_b}

pub by_test : {C : Type 0} (b : Bool) → (b ≡ true → C) → (b ≡ false → C) → C
by_test true f g = f refl
by_test false f g = g refl

either_swap : (a b c d : Bool) → either (either a b) (either c d) ≡ either (either a c) (either b d)
either_swap true b c d = refl
either_swap false true true d = refl
either_swap false true false d = refl
either_swap false false c d = refl

either_turn : (a b c : Bool) → either a (either b c) ≡ either (either b a) c
either_turn true true c = refl
either_turn true false c = refl
either_turn false true c = refl
either_turn false false c = refl

module _ {A : Type 0} (none : A) (marks : A → Bool) where
  abbrev pub marked_b : List A → ℕ → Bool
  marked_b seen o = marks (get_or seen o none)

  abbrev pub again : List A → List ℕ → Bool
  again seen os = either (any_b (marked_b seen) os) (twice_b os)

  module _ (seen : List A) (o : ℕ) (v : A) (h : o < length seen) (m : marks v ≡ true) where
    mark_at : (x : ℕ) → marked_b (set seen o v) x ≡ either (eqb x o) (marked_b seen x)
    mark_at x =
        by_test (eqb x o)
        (λ t. rw (t, eqb-true x o t, get_or-set_same seen o v none h) m)
        (λ t. rw t (ap marks (get_or-set_other seen o x v none (eqb-false x o t))))

    mark_any : (os : List ℕ) → any_b (marked_b (set seen o v)) os ≡ either (elem_b o os) (any_b (marked_b seen) os)
    mark_any [] = refl
    mark_any (x ∷ xs) = rw (mark_at x, mark_any xs) (either_swap (eqb x o) (marked_b seen x) (elem_b o xs) (any_b (marked_b seen) xs))

    pub mark_again : (os : List ℕ) → marked_b seen o ≡ false → again (set seen o v) os ≡ again seen (o ∷ os)
    mark_again os e = rw (e, mark_any os) (sym (either_turn (any_b (marked_b seen) os) (elem_b o os) (twice_b os)))

  -- at the start none is marked
  pub again_start : (seen : List A) → ((o : ℕ) → marked_b seen o ≡ false) → (os : List ℕ) → again seen os ≡ twice_b os
  again_start seen h os = rw (unmet os)
    where
      unmet : (os : List ℕ) → any_b (marked_b seen) os ≡ false
      unmet [] = refl
      unmet (x ∷ xs) = rw (h x, unmet xs)

  -- a turn at i
  module _ (seen : List A) (os : List ℕ) (i : ℕ) where
    pub again_met : i < length os → marked_b seen (get_or os i 0) ≡ true → again seen (drop i os) ≡ true
    again_met h e = rw (drop-cons os i 0, e)

    pub again_new : (v : A) → marks v ≡ true → i < length os → get_or os i 0 < length seen → marked_b seen (get_or os i 0) ≡ false
        → again (set seen (get_or os i 0) v) (drop (i + 1) os) ≡ again seen (drop i os)
    again_new v m h g e = rw (add-one, drop-cons os i 0) (mark_again seen (get_or os i 0) v g m (drop (suc i) os) e)

pub blank_at : {A : Type 0} (none : A) (n o : ℕ) → get_or (replicate n none) o none ≡ none
blank_at none zero o = refl
blank_at none (suc n) zero = refl
blank_at none (suc n) (suc o) = blank_at none n o

-- of fewer than two numbers none stands twice
pub few_once : (os : List ℕ) → length os < 2 → twice_b os ≡ false
few_once [] h = refl
few_once (x ∷ []) h = refl
few_once (x ∷ y ∷ os) h = absurd (omega arith)
