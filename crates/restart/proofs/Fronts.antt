-- A column read into the front of a lent list.
use Prim.Native.Nat.{ℕ, ◌≤◌}
use mathlib.Core.Path.{◌≡◌, ap, sym, ◌∙◌}
use mathlib.Core.List.{List, ◌++◌}
use native.Mathlib.Omega.{arith}
use lib.ListN.{length, take, drop, length-append, length-drop}
use lib.Seq.{length-take-le, take_at}
use Rattle.model.specs.Bytes.{column}
use Rattle.journal.proofs.Walks.{column_length}

-- the list of 16 numbers, of which the first n are col
pub record Front (n : ℕ) (l col : List ℕ) : Type 0 where
  pub size : length l ≡ 16
  pub fits : n ≤ length l
  pub long : n ≡ length (take n l)
  pub holds : take n l ≡ col

-- p has come back as the first n numbers of l
pub filled : {p : List ℕ} (w stride n : ℕ) (b l : List ℕ) → length l ≡ 16 → n ≤ 16 → p ≡ column w stride (length (take n l)) b
    → Front n (p ++ drop n l) (column w stride n b)
filled {p} w stride n b l s h e =
    let t : length (take n l) ≡ n = length-take-le n l (omega arith) in
    let f : p ≡ column w stride n b = e ∙ ap (λ (k : ℕ). column w stride k b) t in
    let m : length p ≡ n = ap length f ∙ column_length w stride n b in
    let z : length (p ++ drop n l) ≡ 16 = simp length-append (omega (arith, length-drop n l)) in
    record { size = z; fits = omega arith; long = sym (length-take-le n (p ++ drop n l) (omega arith)); holds = take_at p (drop n l) n m ∙ f }
