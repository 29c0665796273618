-- Tests, and lists of anything: nothing here is about a store.
use Rattle.std.specs.Prelude.{ℕ, zero, suc, Bool, true, false, List, [], ◌∷◌, ◌++◌, ltb, eqb}

abbrev pub both : Bool → Bool → Bool
both true b = b
both false b = false

abbrev pub either : Bool → Bool → Bool
either true b = true
either false b = b

abbrev pub pick : {A : Type 0} → Bool → A → A → A
pick true a b = a
pick false a b = b

abbrev pub any_b : {A : Type 0} → (A → Bool) → List A → Bool
any_b f [] = false
any_b f (x ∷ xs) = either (f x) (any_b f xs)

abbrev pub all_b : {A : Type 0} → (A → Bool) → List A → Bool
all_b f [] = true
all_b f (x ∷ xs) = both (f x) (all_b f xs)

-- those that pass the test, in their order
abbrev pub kept : {A : Type 0} → (A → Bool) → List A → List A
kept f [] = []
kept f (x ∷ xs) = pick (f x) (x ∷ kept f xs) (kept f xs)

abbrev pub add_if : {A : Type 0} → Bool → List A → A → List A
add_if true xs x = xs ++ (x ∷ [])
add_if false xs x = xs

abbrev pub empty_b : {A : Type 0} → List A → Bool
empty_b [] = true
empty_b (x ∷ xs) = false

abbrev pub elem_b : ℕ → List ℕ → Bool
elem_b s xs = any_b (λ x. eqb x s) xs

-- some number stands twice in the list
abbrev pub twice_b : List ℕ → Bool
twice_b [] = false
twice_b (x ∷ xs) = either (elem_b x xs) (twice_b xs)

-- strictly ascending, from beyond lo
abbrev pub rising_from : ℕ → List ℕ → Bool
rising_from lo [] = true
rising_from lo (x ∷ xs) = both (ltb lo x) (rising_from x xs)

-- f 0, f 1, .. f (n - 1)
abbrev pub tab : ℕ → (ℕ → ℕ) → List ℕ
tab zero f = []
tab (suc n) f = f 0 ∷ tab n (λ k. f (suc k))

-- some k below n passes
abbrev pub some_below : ℕ → (ℕ → Bool) → Bool
some_below zero f = false
some_below (suc n) f = either (f n) (some_below n f)
