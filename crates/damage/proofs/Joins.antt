-- Numbers joined bit by bit: a limit that is a power of two is kept by all of them just when their join keeps it.
use Prim.Native.Nat.{ℕ, zero, suc, ◌+◌, ◌<◌, ◌≤◌, ◌^◌}
use mathlib.Core.Path.{◌≡◌, refl, ap, sym}
use mathlib.Core.Bool.{Bool, true, false}
use mathlib.Core.List.{List, [], ◌∷◌, map}
use native.Mathlib.Nat.{le_trans}
use native.Mathlib.Numerals.{add-one}
use native.Mathlib.Omega.{arith}
use lib.Bits.{bit_or, or_lt, or_comm, or_add_and, and_le_r}
use lib.Dec.{leb}
use lib.ListN.{length, take, drop, get_or}
use lib.Seq.{drop-cons}
use borrow.Author.Tests.{le-leb, lt-leb, leb-true, leb-false}
use Rattle.std.proofs.lemmas.List.{take-map, drop_all}
use Rattle.model.specs.Lists.{either, any_b}
use Rattle.tables.specs.Rows.{pendings, pasts, copy_heads, copies_of}
use Rattle.tables.proofs.Cases.{by_test}

or_least : (a b : ℕ) → a ≤ bit_or a b
or_least a b = omega (arith, or_add_and a b, and_le_r a b)

or_least_right : (a b : ℕ) → b ≤ bit_or a b
or_least_right a b = rw (or_comm a b) (or_least b a)

join_limit : (k a b : ℕ) → leb (2 ^ k) (bit_or a b) ≡ either (leb (2 ^ k) b) (leb (2 ^ k) a)
join_limit k a b =
    by_test (leb (2 ^ k) b)
    (λ t. rw t (le-leb (2 ^ k) (bit_or a b) (le_trans (leb-true (2 ^ k) b t) (or_least_right a b))))
    (λ t. by_test (leb (2 ^ k) a)
    (λ u. rw (t, u) (le-leb (2 ^ k) (bit_or a b) (le_trans (leb-true (2 ^ k) a u) (or_least a b))))
    (λ u. rw (t, u) (lt-leb (2 ^ k) (bit_or a b) (or_lt k a b (leb-false (2 ^ k) a u) (leb-false (2 ^ k) b t)))))

either_none : (a : Bool) → either a false ≡ a
either_none true = refl
either_none false = refl

either_next : (a b c : Bool) → either b (either a c) ≡ either (either a b) c
either_next true true c = refl
either_next true false c = refl
either_next false true c = refl
either_next false false c = refl

power : (k : ℕ) → 0 < 2 ^ k
power zero = omega arith
power (suc k) = omega (arith, power k)

-- a row whose number is at the limit or beyond
abbrev pub out_b : ℕ → List ℕ → Bool
out_b k row = leb (2 ^ k) (get_or row 0 0)

-- the rows from i on, with the join of those before, tell whether some row is out
module _ (rows : List (List ℕ)) (k : ℕ) where
  abbrev pub told : ℕ → ℕ → Bool
  told i all = either (any_b (out_b k) (drop i rows)) (leb (2 ^ k) all)

  pub join_start : told 0 0 ≡ any_b (out_b k) rows
  join_start = rw (lt-leb (2 ^ k) 0 (power k)) (either_none (any_b (out_b k) rows))

  pub join_more : (i all : ℕ) (row : List ℕ) → row ≡ get_or rows i row → i < length rows → told (i + 1) (bit_or all (get_or row 0 0)) ≡ told i all
  join_more i all row e h =
      rw (add-one, drop-cons rows i row, ← e, join_limit k all (get_or row 0 0))
      (either_next (out_b k row) (any_b (out_b k) (drop (suc i) rows)) (leb (2 ^ k) all))

  pub join_end : (i all : ℕ) → length rows ≤ i → told i all ≡ leb (2 ^ k) all
  join_end i all h = rw (drop_all i rows h) refl

-- ---- the tables' rows begin with the number of an object or of a page
any_map : {A B : Type 0} (f : B → Bool) (g : A → B) (l : List A) → any_b f (map g l) ≡ any_b (λ x. f (g x)) l
any_map f g [] = refl
any_map f g (x ∷ xs) = ap (either (f (g x))) (any_map f g xs)

module _ (k n : ℕ) (rows : List (List ℕ)) where
  pub pending_is : any_b (out_b k) (take n rows) ≡ any_b (λ e. leb (2 ^ k) e.object) (take n (pendings rows))
  unfolding pendings
  pending_is = rw (take-map) (sym (any_map _ _ (take n rows)))

  pub past_is : any_b (out_b k) (take n rows) ≡ any_b (λ q. leb (2 ^ k) q.object) (take n (pasts rows))
  unfolding pasts
  past_is = rw (take-map) (sym (any_map _ _ (take n rows)))

pub copies_is : (k n : ℕ) (rows : List (List ℕ)) (words : List ℕ) → any_b (out_b k) (take n rows) ≡ any_b (λ c. leb (2 ^ k) c.page) (take n (copies_of (copy_heads rows) words))
unfolding copy_heads
copies_is k zero rows words = refl
copies_is k (suc n) [] words = refl
copies_is k (suc n) (r ∷ rs) words = ap (either (out_b k r)) (copies_is k n rs (drop 16 words))
