-- A loop that counts those of a list that pass a test: one turn, and the end. No more pass than there are.
use Prim.Native.Nat.{ℕ, ◌+◌, ◌≤◌, ◌<◌}
use mathlib.Core.Path.{◌≡◌, ap}
use mathlib.Core.Bool.{Bool}
use mathlib.Core.List.{List, [], ◌∷◌, map}
use native.Mathlib.Numerals.{add-one}
use native.Mathlib.Omega.{arith}
use lib.ListN.{length, drop, get_or}
use lib.Seq.{drop-cons}
use Rattle.tables.proofs.Cases.{by_test}
use Rattle.commits.specs.Rows.{one_if, trues}

-- a of the first k pass
abbrev pub Counts : {A : Type 0} → (A → Bool) → List A → ℕ → ℕ → Type 0
Counts f xs k a = a + trues (map f (drop k xs)) ≡ trues (map f xs)

module _ {A : Type 0} (f : A → Bool) (xs : List A) (k a : ℕ) (v : Counts f xs k a) where
  module _ (d : A) (l : k < length xs) {b : Bool} (e : b ≡ f (get_or xs k d)) where
    pub counts_by : {a' : ℕ} → a' ≡ a + one_if b → Counts f xs (k + 1) a'
    counts_by m = rw (add-one k) (omega (arith, ap one_if e, rw (drop-cons xs k d l) at v))

pub trues_few : {A : Type 0} (f : A → Bool) (xs : List A) → trues (map f xs) ≤ length xs
trues_few f [] = omega arith
trues_few f (x ∷ xs) = let ih = trues_few f xs in by_test (f x) (λ e. rw e (omega arith)) (λ e. rw e (omega arith))
