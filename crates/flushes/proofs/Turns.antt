-- A loop from the first row to the last: the next row, a row put behind others, rows counted and rows added; and a filter of mapped ones.
use Prim.Native.Nat.{ℕ, ◌+◌, ◌≤◌, ◌<◌}
use mathlib.Core.Path.{◌≡◌, refl, ap, sym, ◌∙◌}
use mathlib.Core.Bool.{Bool, true, false}
use mathlib.Core.List.{List, [], ◌∷◌, ◌++◌, map, append_assoc, append-nil}
use native.Mathlib.Numerals.{add-one}
use native.Mathlib.Omega.{arith}
use lib.ListN.{drop_of_length-le, length, take, drop, get_or, set, length-append}
use lib.Seq.{drop-cons, slice-cons, take-suc-set, length-take-le}
use Rattle.model.specs.Lists.{both, kept}
use Rattle.shares.specs.Shares.{rows_at}
use Rattle.shares.proofs.Numbers.{rows_next}
use Rattle.tables.proofs.Cases.{by_test}

module _ {A : Type 0} where
  pub next : (l : List A) (i : ℕ) (d : A) → i < length l → drop i l ≡ get_or l i d ∷ drop (i + 1) l
  next l i d h = rw (add-one, drop-cons l i d)

  pub next_row : (l : List A) (n i : ℕ) (d : A) → i < n → n ≤ length l → drop i (take n l) ≡ get_or l i d ∷ drop (i + 1) (take n l)
  next_row l n i d h k = rw (add-one, slice-cons i n l d)

  pub push : (l : List A) (k : ℕ) (x : A) (rest : List A) → k < length l → take (k + 1) (set l k x) ++ rest ≡ take k l ++ (x ∷ rest)
  push l k x rest h = rw (add-one, take-suc-set l k x h, append_assoc)

  -- nothing is left to be added
  pub all_added : (l : List A) (k : ℕ) {W : List A} → k ≤ length l → take k l ++ [] ≡ W → (take k l ≡ W) × (k ≡ length W)
  all_added l k h e =
      let q = sym (append-nil (take k l)) ∙ e in
      (q, sym (length-take-le k l h) ∙ ap length q)

pub kept_mapped : {A B : Type 0} (f : B → Bool) (g : A → Bool) (b : A → B) (l : List A)
    → kept f (map b (kept g l)) ≡ map b (kept (λ x. both (g x) (f (b x))) l)
kept_mapped f g b [] = refl
kept_mapped f g b (x ∷ xs) =
    let ih = kept_mapped f g b xs in
    by_test (g x) (λ e. by_test (f (b x)) (λ q. rw (e, q, ih)) (λ q. rw (e, q, ih))) (λ e. rw (e, ih))

-- ---- k counted before the number at i, t of all
module _ {A : Type 0} (d : A) (f : A → Bool) (l : List A) (ns : List ℕ) (i k : ℕ) {t : ℕ} (v : k + length (kept f (rows_at d l (drop i ns))) ≡ t)
    (h : i < length ns) {x : A} (p : x ≡ get_or l (get_or ns i 0) d) where
  pub count_yes : f x ≡ true → k + 1 + length (kept f (rows_at d l (drop (i + 1) ns))) ≡ t
  count_yes e = let w = rw (rows_next d l ns i h, ← p, e) at v in omega arith

  pub count_no : f x ≡ false → k + length (kept f (rows_at d l (drop (i + 1) ns))) ≡ t
  count_no e = rw (rows_next d l ns i h, ← p, e) at v

-- ---- k rows of Q, with those that b makes of the rows that the numbers ahead name, are W
module _ {A B : Type 0} (d : A) (f : A → Bool) (b : A → B) (P : List A) (ns : List ℕ) (i : ℕ) (Q : List B) (k : ℕ) {W : List B} (v : take k Q ++ map b (kept f (rows_at d P (drop i ns))) ≡ W) where
  module _ (h : i < length ns) {x : A} (p : x ≡ get_or P (get_or ns i 0) d) where
    pub add_room : f x ≡ true → k ≤ length Q → length W ≤ length Q → k < length Q
    add_room e l w =
        let r = rw (rows_next d P ns i h, ← p, e) at v in
        omega (arith, length-take-le k Q l, simp length-append at (ap length r))

    pub add_yes : f x ≡ true → k < length Q → {y : B} {R : List B} → y ≡ b x → R ≡ set Q k y → take (k + 1) R ++ map b (kept f (rows_at d P (drop (i + 1) ns))) ≡ W
    add_yes e l z r =
        rw (r, z) (push Q k (b x) (map b (kept f (rows_at d P (drop (i + 1) ns)))) l ∙ (rw (rows_next d P ns i h, ← p, e) at v))

    pub add_no : f x ≡ false → take k Q ++ map b (kept f (rows_at d P (drop (i + 1) ns))) ≡ W
    add_no e = rw (rows_next d P ns i h, ← p, e) at v

  pub add_end : length ns ≤ i → k ≤ length Q → (take k Q ≡ W) × (k ≡ length W)
  add_end h l = all_added Q k l (rw (drop_of_length-le ns h) at v)
