-- The largest known snapshot at or before a time is known, is at or before it, and no other such is larger.
use Prim.Native.Nat.{ℕ, ◌≤◌, ◌<◌, max}
use mathlib.Core.Path.{◌≡◌, refl, sym, subst}
use mathlib.Core.Bool.{true, false}
use mathlib.Core.List.{List, [], ◌∷◌}
use native.Mathlib.Omega.{arith}
use lib.Dec.{leb, eqb}
use borrow.Author.Tests.{leb-true, eqb-true, le-leb, eq-eqb}
use Rattle.model.specs.Lists.{elem_b}
use Rattle.model.specs.Reads.{largest}
use Rattle.history.proofs.Laws.{by_test, clash, by_le, either_left, either_right, either_cases}

pub largest_bound : (time : ℕ) (l : List ℕ) → largest time l ≤ time
largest_bound time [] = omega arith
largest_bound time (s ∷ ss) =
    let ih = largest_bound time ss in
    by_test (leb s time) (λ e. let m = leb-true s time e in rw e (omega arith)) (λ e. rw e ih)

pub largest_least : (time s : ℕ) (l : List ℕ) → elem_b s l ≡ true → s ≤ time → s ≤ largest time l
largest_least time s [] e m = clash false e refl
largest_least time s (x ∷ xs) e m =
    either_cases (eqb x s) (elem_b s xs) e
    (λ q. let t : x ≡ s = eqb-true x s q in rw (le-leb x time (omega arith)) (omega arith))
    (λ q. let ih = largest_least time s xs q m in by_test (leb x time) (λ f. rw f (omega arith)) (λ f. rw f ih))

pub largest_known : (time : ℕ) (l : List ℕ) → 0 < largest time l → elem_b (largest time l) l ≡ true
largest_known time [] h = absurd (omega arith)
largest_known time (x ∷ xs) h =
    let n = largest time xs in
    by_test (leb x time)
    (λ e.
    by_le n x
    (λ m.
    let q : max x n ≡ x = omega arith in
    let l : largest time (x ∷ xs) ≡ x = rw e q in
    subst (λ (k : ℕ). elem_b k (x ∷ xs) ≡ true) (sym l) (either_left (elem_b x xs) (eq-eqb x x refl)))
    (λ m.
    let q : max x n ≡ n = omega arith in
    let l : largest time (x ∷ xs) ≡ n = rw e q in
    subst (λ (k : ℕ). elem_b k (x ∷ xs) ≡ true) (sym l) (either_right (eqb x n) (largest_known time xs (omega arith)))))
    (λ e.
    let l : largest time (x ∷ xs) ≡ n = rw e refl in
    subst (λ (k : ℕ). elem_b k (x ∷ xs) ≡ true) (sym l) (either_right (eqb x n) (largest_known time xs (rw e at h))))
