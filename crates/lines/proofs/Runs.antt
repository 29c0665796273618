-- A run of bytes at the beginning of a list: as std counts it, and that it stands within the list.
use Prim.Native.Nat.{ℕ, ◌+◌, ◌≤◌}
use mathlib.Core.Path.{◌≡◌, refl}
use mathlib.Core.Bool.{Bool}
use mathlib.Core.List.{List, [], ◌∷◌}
use native.Mathlib.Omega.{arith}
use lib.ListN.{length, drop, length-drop}
use Rattle.std.specs.List.{prefix_len}
use Rattle.lines.specs.Words.{leading}
use Rattle.lines.proofs.Cases.{by_test}

pub run_prefix : (f : ℕ → Bool) (s : List ℕ) → prefix_len f s ≡ leading f s
run_prefix f [] = refl
run_prefix f (b ∷ bs) =
    let ih = run_prefix f bs in
    by_test (f b) (λ e. rw e (omega arith)) (λ e. rw e)

pub run_within : (f : ℕ → Bool) (s : List ℕ) → leading f s ≤ length s
run_within f [] = omega arith
run_within f (b ∷ bs) =
    let ih = run_within f bs in
    by_test (f b) (λ e. rw e (omega arith)) (λ e. rw e (omega arith))

pub run_from : (f : ℕ → Bool) (s : List ℕ) (at n : ℕ) → at ≤ length s → n ≡ leading f (drop at s) → at + n ≤ length s
run_from f s at n h e =
    let l = run_within f (drop at s) in
    let m = length-drop at s in
    omega arith

pub run_all : (f : ℕ → Bool) (s : List ℕ) (n : ℕ) → n ≡ leading f s → n ≤ length s
run_all f s n e = rw e (run_within f s)
