-- Rows that are laid over words all pass a test, so that those that fail it need not be looked at.
use Prim.Native.Nat.{ℕ, ◌+◌, ◌≤◌, ◌<◌}
use mathlib.Core.Path.{◌≡◌, refl, ap, sym, ◌∙◌}
use mathlib.Core.Bool.{Bool, true, false}
use mathlib.Core.List.{List, [], ◌∷◌}
use lib.ListN.{length, take, drop, get_or, set}
use Rattle.model.specs.Lists.{both, pick, kept}
use Rattle.tables.proofs.Backward.{back_end}
use Rattle.tables.proofs.Cases.{by_test}
use Rattle.views.specs.Views.{lay}
use Rattle.shares.specs.Shares.{rows_at, Numbered}
use Rattle.shares.proofs.Numbers.{rows_next}

-- rows that pass two tests
pub lay_both : {A : Type 0} (g f : A → Bool) (slot word : A → ℕ) (l : List A) (out : List ℕ) → lay f slot word (kept g l) out ≡ lay (λ x. both (g x) (f x)) slot word l out
lay_both g f slot word [] out = refl
lay_both g f slot word (x ∷ xs) out =
    let ih = lay_both g f slot word xs out in
    by_test (g x) (λ e. rw (e, ih)) (λ e. rw e ih)

-- ---- the tests that the code makes in turn
pub both_not : (a b : Bool) → b ≡ false → false ≡ both a b
both_not true b e = sym e
both_not false b e = refl

-- ---- the rows that are listed by their numbers
module _ {A : Type 0} (f : A → Bool) (slot word : A → ℕ) (d : A) (l : List A) (ns : List ℕ) where
  -- the row of the j-th number, over those behind it
  pub lay_next : {x : A} (j i : ℕ) → i ≡ j + 1 → j < length ns → x ≡ get_or l (get_or ns j 0) d → (out : List ℕ)
      → pick (f x) (set (lay f slot word (rows_at d l (drop i ns)) out) (slot x) (word x)) (lay f slot word (rows_at d l (drop i ns)) out)
      ≡ lay f slot word (rows_at d l (drop j ns)) out
  lay_next j i e h p out = rw (e, rows_next d l ns j h, p)

  -- the same, where a slot is told otherwise
  pub lay_turn : {x : A} {out y : List ℕ} (j i : ℕ) → i ≡ j + 1 → j < length ns → x ≡ get_or l (get_or ns j 0) d → (out₀ : List ℕ)
      → out ≡ lay f slot word (rows_at d l (drop i ns)) out₀ → (o : ℕ) → o ≡ slot x → y ≡ pick (f x) (set out o (word x)) out
      → y ≡ lay f slot word (rows_at d l (drop j ns)) out₀
  lay_turn j i e h p out₀ v o q w = w ∙ rw (q, v) (lay_next j i e h p out₀)

  pub lay_end : (j : ℕ) → j ≤ 0 → (out : List ℕ) → lay f slot word (rows_at d l (drop j ns)) out ≡ lay f slot word (rows_at d l ns) out
  lay_end j h out = rw (back_end j ns h)

  -- those listed are laid as all that pass two tests
  pub lay_listed : (g : A → Bool) (n : ℕ) → Numbered d g l n ns → (out : List ℕ)
      → lay f slot word (rows_at d l ns) out ≡ lay (λ x. both (g x) (f x)) slot word (take n l) out
  lay_listed g n a out = ap (λ r. lay f slot word r out) a.rows ∙ lay_both g f slot word (take n l) out
