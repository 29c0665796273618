-- The row of an object's entry: what a row below 128 and a row of 128 say. And the index of the entries that a write leaves.
use Rattle.std.specs.Prelude.{Option, Some, None}
use Prim.Native.Nat.{ℕ, zero, suc, ◌≤◌, ◌<◌}
use mathlib.Core.Path.{◌≡◌, refl, ap, sym, ◌∙◌}
use mathlib.Core.Bool.{Bool}
use mathlib.Core.List.{List, [], ◌∷◌}
use native.Mathlib.Omega.{arith}
use lib.ListN.{length, take, get_or, set, length-set}
use lib.Seq.{take-set-le, get_or-set_same}
use lib.Dec.{eqb}
use Rattle.model.specs.declared.Pending.{Pending}
use Rattle.model.specs.Changes.{put}
use Rattle.tables.specs.declared.Heads.{Heads}
use Rattle.tables.specs.Rows.{pending_of, pending_at, pendings, up_to, touched}
use Rattle.tables.specs.Lookups.{first_at, find_pending, row_of, Indexed}
use Rattle.tables.specs.Contents.{Counted}
use Rattle.tables.proofs.Counts.{up_to_take}
use Rattle.tables.proofs.Bridges.{opened, found_below, put_at, put_next}
use Rattle.tables.proofs.Indexing.{by_found, index_more}

-- the entries that a store holds are the first rows of the table
pub pending_taken : (pending : List (List ℕ)) (h : Heads) → length (pendings pending) ≡ 128 → Counted h
    → up_to (pending_of []) h.pending (pendings pending) ≡ take h.pending (pendings pending)
pending_taken pending h l c = up_to_take (pending_of []) h.pending (pendings pending) (omega arith)

-- ---- one row
pub row_at : (f : Option ℕ) {row : ℕ} → row ≡ row_of f → row < 128 → f ≡ Some row
row_at (Some i) e l = ap Some (sym e)
row_at None e l = absurd (omega arith)

pub row_none : (o : ℕ) (es : List Pending) → length es ≤ 128 → {row : ℕ} → row ≡ row_of (find_pending o es) → 128 ≤ row → find_pending o es ≡ None
row_none o es l e h =
    by_found (find_pending o es)
    (λ i f. let b = found_below o es i f in absurd (omega (arith, rw f at e)))
    (λ f. f)

-- ---- the index that a write leaves. Where the object has an entry it is the same, for a search finds what it found
first_set : {A : Type 0} (f : A → Bool) (xs : List A) (i : ℕ) (y d : A) (k : ℕ) → f y ≡ f (get_or xs i d) → first_at f (set xs i y) k ≡ first_at f xs k
first_set f [] i y d k e = refl
first_set f (x ∷ xs) zero y d k e = rw e
first_set f (x ∷ xs) (suc i) y d k e = rw (first_set f xs i y d (suc k) e)

pub indexed_over : (o t v : ℕ) (es : List Pending) {index : List ℕ} → Indexed index es → (i : ℕ) → find_pending o es ≡ Some i → Indexed index (put o t v es)
indexed_over o t v es x i f = rw (put_at o t v es i f) (record {
  objects_in = x.objects_in;
  row_at = λ p l. x.row_at p l ∙ ap row_of (sym (first_set (λ e. eqb e.object p) es i (touched (pending_at es i) t v) (pending_of []) 0 refl));
})

-- else the entry stands in the next row
pub indexed_new : (o t v : ℕ) (es : List Pending) (n : ℕ) {index : List ℕ} → Indexed index (take n es) → n < length es → n < 128 → find_pending o (take n es) ≡ None → o < 512
    → Indexed (set index o n) (put o t v (take n es))
indexed_new o t v es n {index} x l m f b =
    let y = opened o t v in
    let w : Indexed index (take n (set es n y)) = rw (take-set-le n es n y (omega arith)) x in
    let k : n < length (set es n y) = simp length-set l in
    let e : (pending_at (set es n y) n).object ≡ o = rw (get_or-set_same es n y (pending_of []) l) in
    let r : 128 ≤ get_or index o 0 = rw (x.row_at o b, f) (omega arith) in
    rw (put_next o t v es n l f) (index_more index (set es n y) n k m w o e b r)
