-- A table's rows: what is read at an index, what a written row leaves, how many there are.
use Prim.Native.Nat.{ℕ, zero, suc}
use mathlib.Core.Path.{◌≡◌, refl, ap, sym, ◌∙◌}
use mathlib.Core.List.{List, [], ◌∷◌, map}
use lib.ListN.{length, get_or, set, length-map, get_or-map}
use Rattle.tables.specs.Rows.{pending_of, past_of, copy_head_of, pendings, pasts, copy_heads, pending_at, past_at, copy_head_at, touched}

pub map_set : {A B : Type 0} (f : A → B) (l : List A) (i : ℕ) (a : A) → map f (set l i a) ≡ set (map f l) i (f a)
map_set f [] i a = refl
map_set f (x ∷ xs) zero a = refl
map_set f (x ∷ xs) (suc i) a = ap (λ r. f x ∷ r) (map_set f xs i a)

pub pending_read : (rows : List (List ℕ)) (i : ℕ) → pending_of (get_or rows i []) ≡ pending_at (pendings rows) i
unfolding pendings
pending_read rows i = sym (get_or-map pending_of rows i [])

pub pending_put : (rows : List (List ℕ)) (i : ℕ) (w : List ℕ) → pendings (set rows i w) ≡ set (pendings rows) i (pending_of w)
unfolding pendings
pending_put rows i w = map_set pending_of rows i w

pub pending_move : (rows : List (List ℕ)) (i j : ℕ) → pendings (set rows j (get_or rows i [])) ≡ set (pendings rows) j (pending_at (pendings rows) i)
pending_move rows i j = pending_put rows j (get_or rows i []) ∙ ap (set (pendings rows) j) (pending_read rows i)

pub pending_rewrite : (rows : List (List ℕ)) (i latest value : ℕ)
    → pendings (set rows i (get_or (get_or rows i []) 0 0 ∷ get_or (get_or rows i []) 1 0 ∷ latest ∷ value ∷ [])) ≡ set (pendings rows) i (touched (pending_at (pendings rows) i) latest value)
pending_rewrite rows i latest value = pending_put rows i _ ∙ ap (λ e. set (pendings rows) i (touched e latest value)) (pending_read rows i)

pub pendings_length : (rows : List (List ℕ)) (n : ℕ) → length rows ≡ n → length (pendings rows) ≡ n
unfolding pendings
pendings_length rows n e = length-map rows pending_of ∙ e

pub past_read : (rows : List (List ℕ)) (i : ℕ) → past_of (get_or rows i []) ≡ past_at (pasts rows) i
unfolding pasts
past_read rows i = sym (get_or-map past_of rows i [])

pub past_put : (rows : List (List ℕ)) (i : ℕ) (w : List ℕ) → pasts (set rows i w) ≡ set (pasts rows) i (past_of w)
unfolding pasts
past_put rows i w = map_set past_of rows i w

pub pasts_length : (rows : List (List ℕ)) (n : ℕ) → length rows ≡ n → length (pasts rows) ≡ n
unfolding pasts
pasts_length rows n e = length-map rows past_of ∙ e

pub copy_read : (rows : List (List ℕ)) (i : ℕ) → copy_head_of (get_or rows i []) ≡ copy_head_at (copy_heads rows) i
unfolding copy_heads
copy_read rows i = sym (get_or-map copy_head_of rows i [])

pub copy_put : (rows : List (List ℕ)) (i : ℕ) (w : List ℕ) → copy_heads (set rows i w) ≡ set (copy_heads rows) i (copy_head_of w)
unfolding copy_heads
copy_put rows i w = map_set copy_head_of rows i w

pub copies_length : (rows : List (List ℕ)) (n : ℕ) → length rows ≡ n → length (copy_heads rows) ≡ n
unfolding copy_heads
copies_length rows n e = length-map rows copy_head_of ∙ e
