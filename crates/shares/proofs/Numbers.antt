-- Rows by their numbers: a loop that lists the numbers of those that pass, and the row that a number names.
use Prim.Native.Nat.{ℕ, zero, suc, ◌+◌, ◌≤◌, ◌<◌}
use mathlib.Core.Path.{◌≡◌, refl, ap, sym, ◌∙◌}
use mathlib.Core.Bool.{Bool, true, false}
use mathlib.Core.List.{List, [], ◌∷◌, ◌++◌, append_assoc}
use native.Mathlib.Numerals.{add-one}
use native.Mathlib.Omega.{arith}
use lib.ListN.{length, take, drop, get_or, get_or-append, length-append}
use lib.Seq.{slice-cons, get_or-append_seam, drop-cons}
use lib.Dec.{ltb}
use borrow.Author.Tests.{ltb-true, ltb-false}
use Rattle.model.specs.Lists.{kept}
use Rattle.tables.proofs.Cases.{by_test}
use Rattle.shares.specs.Shares.{rows_at, Numbered}

pub next_row : {A : Type 0} (l : List A) (n i : ℕ) (d : A) → i < n → n ≤ length l → drop i (take n l) ≡ get_or l i d ∷ drop (i + 1) (take n l)
next_row l n i d h k = rw (add-one, slice-cons i n l d)

module _ {A : Type 0} (d : A) (l : List A) where
  rows_append : (is : List ℕ) (i : ℕ) → rows_at d l (is ++ (i ∷ [])) ≡ rows_at d l is ++ (get_or l i d ∷ [])
  rows_append [] i = refl
  rows_append (j ∷ is) i = ap (λ (r : List A). get_or l j d ∷ r) (rows_append is i)

  rows_length : (is : List ℕ) → length (rows_at d l is) ≡ length is
  rows_length [] = refl
  rows_length (i ∷ is) = ap suc (rows_length is)

  rows_row : (is : List ℕ) (j : ℕ) → j < length is → get_or (rows_at d l is) j d ≡ get_or l (get_or is j 0) d
  rows_row [] j h = absurd (omega arith)
  rows_row (i ∷ is) zero h = refl
  rows_row (i ∷ is) (suc j) h = rows_row is j (omega arith)

-- ---- the numbers listed name rows before row i, of the first n
module _ {A : Type 0} (d : A) (f : A → Bool) (l : List A) (n i : ℕ) (ns : List ℕ) {W : List A} (v : rows_at d l ns ++ kept f (drop i (take n l)) ≡ W) where
  module _ (h : i < n) (m : n ≤ length l) {x : A} (p : x ≡ get_or l i d) where
    pub number_more : f x ≡ true → rows_at d l (ns ++ (i ∷ [])) ++ kept f (drop (i + 1) (take n l)) ≡ W
    number_more e = rw (rows_append d l ns i, append_assoc) (rw (next_row l n i d h m, ap f (sym p) ∙ e) at v)

    pub number_less : f x ≡ false → rows_at d l ns ++ kept f (drop (i + 1) (take n l)) ≡ W
    number_less e = rw (next_row l n i d h m, ap f (sym p) ∙ e) at v

-- a number put behind the others
pub inside_push : (ns : List ℕ) (i n : ℕ) → ((j : ℕ) → j < length ns → get_or ns j 0 < n) → i < n → (j : ℕ) → j < length (ns ++ (i ∷ [])) → get_or (ns ++ (i ∷ [])) j 0 < n
inside_push ns i n f h j m =
    by_test (ltb j (length ns))
    (λ e. let b = ltb-true j (length ns) e in rw (get_or-append ns (i ∷ []) 0 j b) (f j b))
    (λ e.
    let z = ltb-false j (length ns) e in
    let y : j ≡ length ns = omega (arith, length-append ns (i ∷ [])) in
    rw (y, get_or-append_seam ns i [] 0) h)

-- the rows from the j-th number on
pub rows_next : {A : Type 0} (d : A) (l : List A) (ns : List ℕ) (j : ℕ) → j < length ns → rows_at d l (drop j ns) ≡ get_or l (get_or ns j 0) d ∷ rows_at d l (drop (j + 1) ns)
rows_next d l ns j h = rw (add-one, drop-cons ns j 0 h)

-- ---- the rows that are numbered
module _ {A : Type 0} {d : A} {f : A → Bool} {l : List A} {n : ℕ} {ns : List ℕ} (a : Numbered d f l n ns) where
  pub numbered_count : length ns ≡ length (kept f (take n l))
  numbered_count = sym (rows_length d l ns) ∙ ap length a.rows

  pub numbered_row : {x : A} (j : ℕ) → j < length ns → x ≡ get_or l (get_or ns j 0) d → x ≡ get_or (kept f (take n l)) j d
  numbered_row j h e = e ∙ sym (rows_row d l ns j h) ∙ ap (λ r. get_or r j d) a.rows
