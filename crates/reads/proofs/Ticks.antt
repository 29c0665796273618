-- The lag: a tick of a word is below 2^63, so its cast to a signed word loses nothing, and the difference of two fits.
use Prim.Native.Nat.{ℕ, zero, suc, ◌/◌, ◌^◌, ◌<◌}
use mathlib.Core.Path.{◌≡◌, sym, subst, ◌∙◌}
use native.Mathlib.Omega.{arith}
use lib.IntN.{pos, ◌-ℤ◌}
use lib.Dec.{ltb}
use mir.Syntax.{w64}
use mir.Val.{Fits, SFits, to_z, of_z}
use mir.ValLaws.{to_z_pos, to_z-of_z}
use Rattle.model.specs.Reads.{tick_of}
use Rattle.tables.proofs.Cases.{by_test}

difference : (a b : ℕ) → a < 2 ^ 63 → b < 2 ^ 63 → SFits w64 (pos a -ℤ pos b)
difference a zero h k = record { sfits = omega arith }
difference a (suc b) h k =
    by_test (ltb a (suc b))
    (λ t. rw t (record { sfits = omega arith }))
    (λ t. rw t (record { sfits = omega arith }))

tick_low : (s : ℕ) → Fits w64 s → s / 256 < 2 ^ 63
tick_low s f = omega arith

module _ (last horizon : ℕ) (f : Fits w64 last) (g : Fits w64 horizon) where
  casts : to_z w64 (last / 256) -ℤ to_z w64 (horizon / 256) ≡ pos (tick_of last) -ℤ pos (tick_of horizon)
  casts = λ i. to_z_pos w64 (last / 256) (tick_low last f) i -ℤ to_z_pos w64 (horizon / 256) (tick_low horizon g) i

  pub lag_fits : SFits w64 (to_z w64 (last / 256) -ℤ to_z w64 (horizon / 256))
  lag_fits = subst (SFits w64) (sym casts) (difference (last / 256) (horizon / 256) (tick_low last f) (tick_low horizon g))

  pub lag_is : to_z w64 (of_z w64 (to_z w64 (last / 256) -ℤ to_z w64 (horizon / 256))) ≡ pos (tick_of last) -ℤ pos (tick_of horizon)
  lag_is = to_z-of_z w64 (to_z w64 (last / 256) -ℤ to_z w64 (horizon / 256)) lag_fits ∙ casts
