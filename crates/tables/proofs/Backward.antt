-- A loop from the last row to the first: its start, one turn and its end.
use Prim.Native.Nat.{ℕ, zero, suc, ◌-◌, ◌<◌, ◌≤◌}
use mathlib.Core.Path.{◌≡◌, refl, ◌∙◌, ap}
use mathlib.Core.List.{List, [], ◌∷◌}
use native.Mathlib.Omega.{arith}
use lib.ListN.{length, take, drop, get_or}
use lib.Seq.{slice-cons}
use Rattle.tables.proofs.Searches.{drop_end}

-- a turn from row i to row i - 1, of the first n rows
pub record Turn {A : Type 0} (l : List A) (n i : ℕ) : Type 0 where
  pub left : 0 < i
  pub inside : i ≤ n
  pub rows : n ≤ length l

pub back_start : {A : Type 0} (n : ℕ) (l : List A) → drop n (take n l) ≡ []
back_start n l = drop_end n l n (omega arith)

pub back_cons : {A : Type 0} {l : List A} {n i : ℕ} → Turn l n i → (d : A) → drop (i - 1) (take n l) ≡ get_or l (i - 1) d ∷ drop i (take n l)
back_cons {A} {l} {n} {i} t d =
    let e : suc (i - 1) ≡ i = omega arith in
    slice-cons (i - 1) n l d (omega arith) t.rows ∙ ap (λ j. get_or l (i - 1) d ∷ drop j (take n l)) e

pub back_end : {A : Type 0} (i : ℕ) (l : List A) → i ≤ 0 → drop i l ≡ l
back_end zero l h = refl
back_end (suc i) l h = absurd (omega arith)
