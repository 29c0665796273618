-- The coordinator's state: the stamps that it holds, and what each test of damage settles.
use Prim.Native.Nat.{ℕ, suc, ◌-◌, ◌≤◌, ◌<◌}
use mathlib.Core.Path.{◌≡◌, refl}
use mathlib.Core.Bool.{Bool, true, false, not}
use mathlib.Core.List.{List, [], ◌∷◌}
use native.Mathlib.Omega.{arith}
use lib.ListN.{length, take, drop, get_or}
use lib.Dec.{ltb, eqb}
use borrow.Author.Tests.{lt-ltb, le-ltb, ltb-true, ltb-false}
use Rattle.model.specs.Lists.{both, either, pick, rising_from}
use Rattle.model.specs.Coordinator.{highest, coordinator_damaged}
use Rattle.tables.proofs.Cases.{clash}
use Rattle.tables.proofs.Searches.{both_left, both_right}
use Rattle.tables.proofs.Counts.{up_to_take, up_to_length}
use Rattle.coordinator.specs.declared.State.{State}
use Rattle.coordinator.specs.States.{held, Sound}

-- ---- the stamps
pub granted_length : (s : State) → length (held s).granted ≡ s.count
granted_length s = up_to_length 0 s.count s.stamps

pub granted_is : (s : State) → length s.stamps ≡ 64 → s.count ≤ 64 → (held s).granted ≡ take s.count s.stamps
granted_is s l h = up_to_take 0 s.count s.stamps (omega arith)

-- shown where their count is within its limit
module _ (s : State) where
  pub shown_none : 64 < s.count → [] ≡ pick (ltb 64 (length (held s).granted)) [] (held s).granted
  shown_none h = rw (granted_length s, lt-ltb 64 s.count h)

  pub shown_all : s.count ≤ 64 → (held s).granted ≡ pick (ltb 64 (length (held s).granted)) [] (held s).granted
  shown_all h = rw (granted_length s, le-ltb 64 s.count h)

-- ---- damage
either_none : (a b : Bool) → either a (not b) ≡ false → (a ≡ false) × (b ≡ true)
either_none true b e = clash e
either_none false true e = (refl, refl)
either_none false false e = clash e

module _ (s : State) where
  pub damaged_over : 64 < s.count → true ≡ coordinator_damaged (held s)
  unfolding coordinator_damaged
  damaged_over h = rw (granted_length s, lt-ltb 64 s.count h)

  pub damaged_rises : s.count ≤ 64 → not (rising_from 0 (held s).granted) ≡ coordinator_damaged (held s)
  unfolding coordinator_damaged
  damaged_rises h = rw (granted_length s, le-ltb 64 s.count h)

  pub sound : coordinator_damaged (held s) ≡ false → Sound s
  unfolding coordinator_damaged
  sound e =
      let z = either_none (ltb 64 (length (held s).granted)) (rising_from 0 (held s).granted) e in
      record { count_in = omega (arith, granted_length s, ltb-false 64 (length (held s).granted) z.0); rises = z.1 }

-- ---- rising, asked from a place i on with the stamp before it, where n of the stamps so far are a rise
pub none_both : (b : Bool) → both b false ≡ false
none_both true = refl
none_both false = refl

module _ (lo n : ℕ) (l : List ℕ) (i : ℕ) where
  abbrev pub climbs : Bool
  climbs = both (eqb n i) (rising_from lo (drop i l))

-- ---- of rising stamps the last is the highest
pub highest_last : (lo : ℕ) (l : List ℕ) → rising_from lo l ≡ true → 0 < length l → (lo < highest l) × (highest l ≡ get_or l (length l - 1) 0)
highest_last lo [] e h = absurd (omega arith)
highest_last lo (x ∷ []) e h = (omega (arith, ltb-true lo x (both_left (ltb lo x) true e)), omega arith)
highest_last lo (x ∷ y ∷ l) e h =
    let low = ltb-true lo x (both_left (ltb lo x) (rising_from x (y ∷ l)) e) in
    let rest : rising_from x (y ∷ l) ≡ true = both_right (ltb lo x) (rising_from x (y ∷ l)) e in
    let ih = highest_last x (y ∷ l) rest (omega arith) in
    let d : suc (suc (length l)) - 1 ≡ suc (length l) = omega arith in
    let q : suc (length l) - 1 ≡ length l = omega arith in
    let z : highest (y ∷ l) ≡ get_or (y ∷ l) (length l) 0 = rw q at ih.1 in
    (omega (arith, ih.0), rw d (omega (arith, ih.0, z)))
