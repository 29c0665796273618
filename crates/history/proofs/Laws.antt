-- Laws of tests.
use Prim.Native.Nat.{ℕ, ◌≤◌, ◌<◌}
use mathlib.Core.Path.{◌≡◌, refl, sym, ◌∙◌}
use mathlib.Core.Bool.{Bool, true, false, true≢false}
use native.Mathlib.Omega.{arith}
use lib.Dec.{leb, eqb}
use borrow.Author.Tests.{leb-true, leb-false, eqb-true, eqb-false}
use Rattle.model.specs.Lists.{both, either, pick}

-- ---- cases
pub by_test : {C : Type 0} (b : Bool) → (b ≡ true → C) → (b ≡ false → C) → C
by_test true f g = f refl
by_test false f g = g refl

pub clash : {C : Type 0} (b : Bool) → b ≡ true → b ≡ false → C
clash b p q = absurd (true≢false (sym p ∙ q))

-- for two constructors that should be equal: cc proves 0 ≡ 1 of them
pub never : {C : Type 0} → ◌≡◌ {A = ℕ} 0 1 → C
never h = absurd (omega arith)

pub by_le : {C : Type 0} (a b : ℕ) → (a ≤ b → C) → (b < a → C) → C
by_le a b f g = by_test (leb a b) (λ e. f (leb-true a b e)) (λ e. g (leb-false a b e))

pub by_eq : {C : Type 0} (a b : ℕ) → (a ≡ b → C) → ((a ≡ b → ⊥) → C) → C
by_eq a b f g = by_test (eqb a b) (λ e. f (eqb-true a b e)) (λ e. g (eqb-false a b e))

-- ---- both, either
pub both_yes : {a b : Bool} → a ≡ true → b ≡ true → both a b ≡ true
both_yes p q = rw (p, q)

pub both_left : (a b : Bool) → both a b ≡ true → a ≡ true
both_left true b h = refl
both_left false b h = h

pub both_right : (a b : Bool) → both a b ≡ true → b ≡ true
both_right true b h = h
both_right false b h = clash false h refl

pub split : (a b : Bool) → both a b ≡ true → (a ≡ true) × (b ≡ true)
split a b h = (both_left a b h, both_right a b h)

pub either_left : {a : Bool} (b : Bool) → a ≡ true → either a b ≡ true
either_left b p = rw p

pub either_right : (a : Bool) {b : Bool} → b ≡ true → either a b ≡ true
either_right true p = refl
either_right false p = p

pub either_none : (a b : Bool) → either a b ≡ false → (a ≡ false) × (b ≡ false)
either_none true b h = clash true refl h
either_none false b h = (refl, h)

pub neither : {a b : Bool} → a ≡ false → b ≡ false → either a b ≡ false
neither p q = rw (p, q)

pub either_false : (b : Bool) → either b false ≡ b
either_false true = refl
either_false false = refl

pub either_assoc : (a b c : Bool) → either (either a b) c ≡ either a (either b c)
either_assoc true b c = refl
either_assoc false b c = refl

pub either_cases : {C : Type 0} (a b : Bool) → either a b ≡ true → (a ≡ true → C) → (b ≡ true → C) → C
either_cases true b h f g = f refl
either_cases false b h f g = g h

-- what holds of both choices holds of the choice
pub pick_all : {A : Type 0} (P : A → Type 0) (b : Bool) {x y : A} → (b ≡ true → P x) → (b ≡ false → P y) → P (pick b x y)
pick_all P true f g = f refl
pick_all P false f g = g refl

-- a choice that is z is the one or the other
pub pick_cases : {A C : Type 0} {x y z : A} (b : Bool) → pick b x y ≡ z → (b ≡ true → x ≡ z → C) → (b ≡ false → y ≡ z → C) → C
pick_cases true h f g = f refl h
pick_cases false h f g = g refl h
