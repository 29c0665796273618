-- A signed word whose sign is known, as an unsigned one: n where n is not negative, and `!n`, which is -1 - n, where it is.
use Prim.Native.Nat.{ℕ, suc, ◌+◌, ◌-◌, ◌^◌, ◌<◌}
use mathlib.Core.Path.{◌≡◌, sym, ap, subst, ◌∙◌, refl}
use mathlib.Core.Bool.{true, false}
use mathlib.Core.List.{◌++◌}
use native.Mathlib.Omega.{arith}
use lib.IntN.{ℤ, pos, negsuc, nat_abs}
use lib.Signed.{mag, non_neg, lt_z, ◌<ℤ◌}
use lib.Dec.{T, ltb→lt}
use mir.Syntax.{w64}
use mir.Val.{Fits, SFits, to_z, of_z}
use mir.ValLaws.{to_z_pos, to_z-of_z}
use Rattle.answers.specs.Says.{text, decimal, signed}

-- What a cast to an unsigned word asks.
abbrev pub Casts : ℤ → Type 0
Casts z = T (non_neg z) × Fits w64 (nat_abs z)

half : (k : ℕ) → k < 2 ^ 63 → Casts (pos k)
half k h = (tt, record { fits = omega arith })

nonneg : (z : ℤ) → SFits w64 z → lt_z z (pos 0) ≡ false → Casts z
nonneg (pos k) s h = half k s.sfits
nonneg (negsuc k) s h = absurd (subst T h tt)

pub plain : (z : ℤ) → SFits w64 z → lt_z (to_z w64 (of_z w64 z)) (pos 0) ≡ false → Casts (to_z w64 (of_z w64 z))
plain z s h = nonneg (to_z w64 (of_z w64 z)) (subst (SFits w64) (sym (to_z-of_z w64 z s)) s) h

flipped : (z : ℤ) → SFits w64 z → z <ℤ pos 0 → to_z w64 ((2 ^ 64 - 1) - of_z w64 z) ≡ pos (mag z)
flipped (pos k) s h = absurd (omega (arith, ltb→lt k 0 h.lt))
flipped (negsuc k) s h =
    let l : k < 2 ^ 63 = s.sfits in
    let e : (2 ^ 64 - 1) - (2 ^ 64 - suc k) ≡ k = omega arith in
    ap (to_z w64) e ∙ to_z_pos w64 k l

above : (z : ℤ) → z <ℤ pos 0 → mag z + 1 ≡ nat_abs z
above (pos k) h = absurd (omega (arith, ltb→lt k 0 h.lt))
above (negsuc k) h = omega arith

below : (z : ℤ) → lt_z z (pos 0) ≡ true → text "-" ++ decimal (nat_abs z) ≡ signed z
below (pos k) h = absurd (omega (arith, ltb→lt k 0 (subst T (sym h) tt)))
below (negsuc k) h = refl

notbelow : (z : ℤ) → lt_z z (pos 0) ≡ false → decimal (nat_abs z) ≡ signed z
notbelow (pos k) h = refl
notbelow (negsuc k) h = absurd (subst T h tt)

pub signed_below : (z : ℤ) {m : ℕ} → SFits w64 z → lt_z (to_z w64 (of_z w64 z)) (pos 0) ≡ true → m ≡ nat_abs (to_z w64 (of_z w64 z)) → text "-" ++ decimal m ≡ signed z
signed_below z s h e = rw e (below (to_z w64 (of_z w64 z)) h) ∙ ap signed (to_z-of_z w64 z s)

pub signed_plain : (z : ℤ) → SFits w64 z → lt_z (to_z w64 (of_z w64 z)) (pos 0) ≡ false → decimal (nat_abs (to_z w64 (of_z w64 z))) ≡ signed z
signed_plain z s h = notbelow (to_z w64 (of_z w64 z)) h ∙ ap signed (to_z-of_z w64 z s)

module _ (z : ℤ) (s : SFits w64 z) (h : z <ℤ pos 0) where
  pub flip_casts : Casts (to_z w64 ((2 ^ 64 - 1) - of_z w64 z))
  flip_casts = subst Casts (sym (flipped z s h)) (half (mag z) s.sfits)

  pub flip_is : nat_abs (to_z w64 ((2 ^ 64 - 1) - of_z w64 z)) + 1 ≡ nat_abs z
  flip_is = ap (λ (y : ℤ). nat_abs y + 1) (flipped z s h) ∙ above z h

  pub flip_adds : Fits w64 (nat_abs (to_z w64 ((2 ^ 64 - 1) - of_z w64 z)) + 1)
  flip_adds =
      let l : mag z < 2 ^ 63 = s.sfits in
      subst (λ (y : ℤ). Fits w64 (nat_abs y + 1)) (sym (flipped z s h)) (record { fits = omega arith })
