-- Bytes in hexadecimal: every digit reads back as itself, and so do the bytes.
use Prim.Native.Nat.{ℕ, ◌+◌, ◌/◌, ◌%◌, ◌<◌}
use mathlib.Core.Path.{◌≡◌, refl}
use mathlib.Core.Bool.{Bool, true, false}
use mathlib.Core.List.{List, [], ◌∷◌}
use native.Mathlib.Nat.{div-add-mod'}
use native.Mathlib.Omega.{arith}
use lib.Dec.{ltb}
use borrow.Author.Tests.{lt-ltb, le-ltb, ltb-true}
use Rattle.answers.specs.Hex.{hex_digit, hex_of, hex_value, hex_bytes}

by_test : {C : Type 0} (b : Bool) → (b ≡ true → C) → (b ≡ false → C) → C
by_test true f g = f refl
by_test false f g = g refl

digit_back : (d : ℕ) → hex_value (hex_digit d) ≡ d
digit_back d =
    by_test (ltb d 10)
    (λ e.
    let h : d < 10 = ltb-true d 10 e in
    let l : 48 + d < 58 = omega arith in
    rw (e, lt-ltb (48 + d) 58 l) (omega arith))
    (λ e. rw (e, le-ltb (87 + d) 58 (omega arith)) (omega arith))

pub hex_back : (bs : List ℕ) → hex_bytes (hex_of bs) ≡ bs
hex_back [] = refl
hex_back (b ∷ bs) =
    let ih = hex_back bs in
    rw (digit_back (b / 16), digit_back (b % 16), ih, div-add-mod' b 16)
