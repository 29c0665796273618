-- The first n rows by a count: as many as it says. Within the tables they are those of `take`, and so are a store's contents.
use Prim.Native.Nat.{ℕ, zero, suc, ◌≤◌}
use mathlib.Core.Path.{◌≡◌, refl, ap}
use mathlib.Core.List.{List, [], ◌∷◌}
use native.Mathlib.Omega.{arith}
use lib.ListN.{length, take}
use Rattle.model.specs.Store.{Store}
use Rattle.tables.specs.declared.Heads.{Heads}
use Rattle.tables.specs.Rows.{pending_of, past_of, pendings, pasts, copy_heads, copies_of, up_to}
use Rattle.tables.specs.Contents.{contents, Laid, Counted}
use Rattle.tables.proofs.Copies.{no_copy, copies_of_length}

module _ {A : Type 0} (d : A) where
  pub up_to_take : (n : ℕ) (rows : List A) → n ≤ length rows → up_to d n rows ≡ take n rows
  up_to_take zero rows h = refl
  up_to_take (suc n) [] h = absurd (omega arith)
  up_to_take (suc n) (r ∷ rs) h = ap (λ l. r ∷ l) (up_to_take n rs (omega arith))

  pub up_to_length : (n : ℕ) (rows : List A) → length (up_to d n rows) ≡ n
  up_to_length zero rows = refl
  up_to_length (suc n) [] = ap suc (up_to_length n [])
  up_to_length (suc n) (r ∷ rs) = ap suc (up_to_length n rs)

abbrev pub taken : List ℕ → List ℕ → List (List ℕ) → List (List ℕ) → List ℕ → List (List ℕ) → List ℕ → Heads → Store
taken values stamps pending past snapshots copies copied h = record {
  values = values;
  stamps = stamps;
  pending = take h.pending (pendings pending);
  past = take h.past (pasts past);
  snapshots = take h.snapshots snapshots;
  horizon = h.horizon;
  last = h.last;
  copies = take h.copies (copies_of (copy_heads copies) copied);
}

pub contents_taken : (values stamps : List ℕ) (pending past : List (List ℕ)) (snapshots : List ℕ) (copies : List (List ℕ)) (copied : List ℕ) (h : Heads)
    → Laid values stamps pending past snapshots copies copied → Counted h
    → contents values stamps pending past snapshots copies copied h ≡ taken values stamps pending past snapshots copies copied h
contents_taken values stamps pending past snapshots copies copied h l c =
    let w : h.copies ≤ length (copies_of (copy_heads copies) copied) = rw (copies_of_length (copy_heads copies) copied) (omega arith) in
    rw (
      up_to_take (pending_of []) h.pending (pendings pending) (omega arith),
      up_to_take (past_of []) h.past (pasts past) (omega arith),
      up_to_take 0 h.snapshots snapshots (omega arith),
      up_to_take no_copy h.copies (copies_of (copy_heads copies) copied) w,
    )
