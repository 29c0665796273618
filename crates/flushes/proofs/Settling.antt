-- The page's entries go to disk, one after the other, while the others are kept.
use Prim.Native.Nat.{ℕ, suc, ◌+◌, ◌≤◌, ◌<◌}
use mathlib.Core.Path.{◌≡◌, ap, sym, ◌∙◌}
use mathlib.Core.Bool.{Bool, true, false}
use mathlib.Core.List.{List, ◌∷◌, ◌++◌}
use native.Mathlib.Numerals.{add-one}
use native.Mathlib.Omega.{arith}
use lib.ListN.{length, take, drop, get_or, set}
use lib.Seq.{take-set-lt, drop-set-lt}
use Rattle.model.specs.declared.Pending.{Pending}
use Rattle.model.specs.Lists.{pick, kept}
use Rattle.model.specs.Changes.{of_page, stored}
use Rattle.tables.proofs.Searches.{drop_end}
use Rattle.flushes.proofs.Turns.{next_row, all_added}

-- a row that is kept is put before those ahead
pub rest_set : {A : Type 0} (l : List A) (k i n : ℕ) (x : A) → k ≤ i → i < n → drop (i + 1) (take n (set l k x)) ≡ drop (i + 1) (take n l)
rest_set l k i n x h m =
    let b : k < n = omega arith in
    let r : k < suc i = omega arith in
    rw (add-one, take-set-lt n l k x b, drop-set-lt (suc i) (take n l) k x r)

module _ (p : ℕ) (f : Pending → ℕ) (P : List Pending) (n i : ℕ) (d : List ℕ) {W : List ℕ} (v : stored p f (drop i (take n P)) d ≡ W) where
  module _ (z : Pending) (h : i < n) (l : n ≤ length P) {x : Pending} (q : x ≡ get_or P i z) where
    stored_next : (b : Bool) → of_page p x ≡ b → stored p f (drop (i + 1) (take n P)) (pick b (set d x.object (f x)) d) ≡ W
    stored_next b e =
        let rest = drop (i + 1) (take n P) in
        sym (ap (λ es. stored p f es d) (next_row P n i z h l ∙ ap (λ y. y ∷ rest) (sym q)) ∙ ap (λ t. stored p f rest (pick t (set d x.object (f x)) d)) e)
        ∙ v

    pub store_yes : of_page p x ≡ true → stored p f (drop (i + 1) (take n P)) (set d x.object (f x)) ≡ W
    store_yes e = stored_next true e

    pub store_no : of_page p x ≡ false → (k : ℕ) (y : Pending) → k ≤ i → {R : List Pending} → R ≡ set P k y → stored p f (drop (i + 1) (take n R)) d ≡ W
    store_no e k y m r = rw (r, rest_set P k i n y m h) (stored_next false e)

  pub store_end : n ≤ i → d ≡ W
  store_end h = rw (drop_end n P i h) at v

-- ---- k entries are kept before entry i, with those ahead W
module _ {A : Type 0} (f : A → Bool) (P : List A) (n i k : ℕ) {W : List A} (v : take k P ++ kept f (drop i (take n P)) ≡ W) where
  pub pass_by : (d : A) → i < n → n ≤ length P → f (get_or P i d) ≡ false → take k P ++ kept f (drop (i + 1) (take n P)) ≡ W
  pass_by d h m e = rw (next_row P n i d h m, e) at v

  pub kept_end : n ≤ i → k ≤ length P → take k P ≡ W
  kept_end h l = (all_added P k l (rw (drop_end n P i h) at v)).0
