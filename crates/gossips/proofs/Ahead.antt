-- A list from a place on, what a test keeps of it, and new stamps written behind those known.
use Prim.Native.Nat.{ℕ, ◌+◌, ◌-◌, ◌<◌, ◌≤◌}
use mathlib.Core.Path.{◌≡◌, ap, ◌∙◌}
use mathlib.Core.Bool.{Bool, true, false}
use mathlib.Core.List.{List, [], ◌∷◌, ◌++◌}
use native.Mathlib.Numerals.{add-one}
use lib.ListN.{length, take, drop, get_or, length-drop, drop_of_length-le}
use lib.Seq.{drop-cons, take-length}
use borrow.Rule.Slice.PartMut.{put_mid}
use Rattle.std.proofs.lemmas.Slice.{take-put_mid}
use Rattle.model.specs.Lists.{kept}

-- a list from a place on, as the code slices it
pub rest : (l : List ℕ) (r : ℕ) → take (length l - r) (drop r l) ≡ drop r l
rest l r = rw (← length-drop r l) (take-length (drop r l))

-- what a test keeps of it: after one row more, and at the end
module _ (f : ℕ → Bool) (l : List ℕ) (i : ℕ) (h : i < length l) where
  pub ahead_yes : f (get_or l i 0) ≡ true → kept f (drop i l) ≡ get_or l i 0 ∷ kept f (drop (i + 1) l)
  ahead_yes e = rw (add-one, drop-cons l i 0, e)

  pub ahead_no : f (get_or l i 0) ≡ false → kept f (drop i l) ≡ kept f (drop (i + 1) l)
  ahead_no e = rw (add-one, drop-cons l i 0, e)

pub ahead_end : (f : ℕ → Bool) (l : List ℕ) (i : ℕ) → length l ≤ i → kept f (drop i l) ≡ []
ahead_end f l i h = rw (drop_of_length-le l h)

-- the new ones behind those known
pub behind : (known new now : List ℕ) (n k : ℕ) → now ≡ new → n ≤ length known → k ≡ n + length new → take k (put_mid n (k - n) known now) ≡ take n known ++ new
behind known new now n k e l f = take-put_mid n (k - n) known now k (rw e f) l ∙ ap (λ x. take n known ++ x) e
