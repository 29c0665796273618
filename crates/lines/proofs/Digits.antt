-- A number by its digits: one turn of the reading, and that it never falls.
use Prim.Native.Nat.{ℕ, ◌+◌, ◌*◌, ◌-◌, ◌^◌, ◌<◌, ◌≤◌}
use mathlib.Core.Path.{◌≡◌, refl, sym, ◌∙◌}
use mathlib.Core.Bool.{false}
use mathlib.Core.List.{List, [], ◌∷◌}
use native.Mathlib.Numerals.{add-one}
use native.Mathlib.Omega.{arith}
use lib.ListN.{length, drop, get_or}
use lib.Seq.{drop-cons}
use borrow.Author.Tests.{le-ltb}
use Rattle.lines.specs.Words.{digit, leading}
use Rattle.lines.specs.Numbers.{decimal, sized, number_at}
use Rattle.model.specs.Lists.{empty_b}
use Rattle.lines.specs.declared.Fault.TheVariants.{Large}
use Rattle.lines.specs.Mistakes.{wrong}

decimal_grows : (n : ℕ) (bs : List ℕ) → n ≤ decimal n bs
decimal_grows n [] = omega arith
decimal_grows n (b ∷ bs) = let ih = decimal_grows (n * 10 + (b - 48)) bs in omega arith

module _ (s : List ℕ) (n i : ℕ) (e : decimal n (drop i s) ≡ decimal 0 s) where
  pub digit_turn : i < length s → decimal (n * 10 + (get_or s i 0 - 48)) (drop (i + 1) s) ≡ decimal 0 s
  digit_turn h = sym (rw (add-one, drop-cons s i 0)) ∙ e

  pub digit_large : (column : ℕ) → i < length s → 2 ^ 64 ≤ n * 10 + (get_or s i 0 - 48) → wrong Large column ≡ sized column s
  digit_large column h l =
      let g = decimal_grows (n * 10 + (get_or s i 0 - 48)) (drop (i + 1) s) in
      let t = digit_turn h in
      let m : 2 ^ 64 ≤ decimal 0 s = omega arith in
      rw (le-ltb (decimal 0 s) (2 ^ 64) m)

-- ---- a word of digits
empty_no : (s : List ℕ) → (length s ≡ 0 → ⊥) → empty_b s ≡ false
empty_no [] h = absurd (h refl)
empty_no (b ∷ bs) h = refl

module _ (column : ℕ) (s : List ℕ) (h : length s ≡ 0 → ⊥) where
  pub say_sized : (n : ℕ) → n ≡ leading digit s → length s ≤ n → sized column s ≡ number_at column s
  say_sized n e l =
      let m : length s ≤ leading digit s = omega arith in
      rw (empty_no s h, le-ltb (leading digit s) (length s) m)
