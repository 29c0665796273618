-- Ascending stamps are in order, and so are those of a part; and where a stamp lies among the first of them.
use Prim.Native.Nat.{ℕ, zero, suc, ◌+◌, ◌≤◌, ◌<◌}
use mathlib.Core.Path.{◌≡◌}
use mathlib.Core.Bool.{true}
use mathlib.Core.List.{List, [], ◌∷◌}
use native.Mathlib.Omega.{arith}
use lib.ListN.{length, take, drop, get_or, length-take}
use lib.Seq.{length-take-le, get_or-take, get_or-drop}
use Rattle.model.specs.Lists.{rising_from}
use Rattle.tables.proofs.Rising.{rest_rises, rising_beyond}
use Rattle.shares.specs.Many.{Ordered, FirstFrom}

-- ---- an ascending list is in order
pub rising_ordered : (lo : ℕ) (l : List ℕ) → rising_from lo l ≡ true → Ordered l
rising_ordered lo [] a i j h k = absurd (omega arith)
rising_ordered lo (x ∷ l) a zero zero h k = omega arith
rising_ordered lo (x ∷ l) a (suc i) zero h k = absurd (omega arith)
rising_ordered lo (x ∷ l) a zero (suc j) h k =
    let ih = rising_beyond x l (rest_rises lo x l a) j (omega arith) in
    omega arith
rising_ordered lo (x ∷ l) a (suc i) (suc j) h k = rising_ordered x l (rest_rises lo x l a) i j (omega arith) (omega arith)

-- ---- the first n of a list ascend
module _ (n : ℕ) (l : List ℕ) (a : rising_from 0 (take n l) ≡ true) (m : n ≤ length l) where
  pub rising_at : (i j : ℕ) → i ≤ j → j < n → get_or l i 0 ≤ get_or l j 0
  rising_at i j h k =
      let b : j < length (take n l) = rw (length-take-le n l m) k in
      let c : i < n = omega arith in
      rw (get_or-take n l i 0 c, get_or-take n l j 0 k) at (rising_ordered 0 (take n l) a i j h b)

  pub part_ordered : (at c : ℕ) → at + c ≤ n → Ordered (take c (drop at l))
  part_ordered at c b i j h k =
      let q : j < c = omega (arith, length-take c (drop at l)) in
      let r : i < c = omega arith in
      rw (get_or-take c (drop at l) i 0 r, get_or-take c (drop at l) j 0 q, get_or-drop at l i 0, get_or-drop at l j 0) (rising_at (at + i) (at + j) (omega arith) (omega arith))

-- ---- r of the first n of a list are before a stamp
module _ (n : ℕ) (l : List ℕ) (m : n ≤ length l) {stamp r : ℕ} (f : FirstFrom (take n l) stamp r) where
  pub first_inside : r ≤ n
  first_inside = omega (arith, f.inside, length-take-le n l m)

  pub first_before : (i : ℕ) → i < r → get_or l i 0 < stamp
  first_before i h =
      let b : i < n = omega (arith, first_inside) in
      rw (get_or-take n l i 0 b) at (f.before i h)

  pub first_behind : (i : ℕ) → r ≤ i → i < n → stamp ≤ get_or l i 0
  first_behind i h b =
      let c : i < length (take n l) = rw (length-take-le n l m) b in
      rw (get_or-take n l i 0 b) at (f.behind i h c)
