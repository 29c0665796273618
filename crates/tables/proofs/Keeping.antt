-- One turn of a compaction of r in place, where k rows are kept and i are passed of n; and its end. What is kept of joined lists.
use Prim.Native.Nat.{ℕ, suc, ◌+◌, ◌<◌, ◌≤◌}
use mathlib.Core.Path.{◌≡◌, refl}
use mathlib.Core.Bool.{Bool, true}
use mathlib.Core.List.{List, [], ◌∷◌, ◌++◌, append_assoc}
use native.Mathlib.Numerals.{add-one}
use native.Mathlib.Omega.{arith}
use lib.ListN.{length, take, drop, get_or, set}
use lib.Seq.{slice-cons, take-suc-set, take-set-lt, drop-set-lt}
use Rattle.model.specs.Lists.{kept}
use Rattle.tables.proofs.Cases.{by_test}

module _ {A : Type 0} (f : A → Bool) (r : List A) (k i n : ℕ) (d : A) (hk : k ≤ i) (hi : i < n) (hn : n ≤ length r) where
  pub keep_yes : f (get_or r i d) ≡ true
      → take (k + 1) (set r k (get_or r i d)) ++ kept f (drop (i + 1) (take n (set r k (get_or r i d)))) ≡ take k r ++ kept f (drop i (take n r))
  keep_yes e =
      let hr : k < length r = omega arith in
      let hm : k < n = omega arith in
      let hs : k < suc i = omega arith in
      rw (add-one k, add-one i, take-suc-set r k, take-set-lt n r k, drop-set-lt (suc i) (take n r) k, slice-cons i n r d, e, append_assoc)

pub kept_append : {A : Type 0} (f : A → Bool) (l m : List A) → kept f (l ++ m) ≡ kept f l ++ kept f m
kept_append f [] m = refl
kept_append f (x ∷ xs) m = let ih = kept_append f xs m in by_test (f x) (λ e. rw (e, ih)) (λ e. rw (e, ih))
