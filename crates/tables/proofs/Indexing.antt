-- An index of the first i entries, with the next one entered.
use Rattle.std.specs.Prelude.{Option, Some, None}
use Prim.Native.Nat.{ℕ, zero, suc, ◌+◌, ◌<◌, ◌≤◌}
use mathlib.Core.Path.{◌≡◌, refl, ap, ◌∙◌, sym}
use mathlib.Core.Bool.{Bool, true, false}
use mathlib.Core.List.{List, [], ◌∷◌}
use native.Mathlib.Nat.{zero-add, add-zero}
use native.Mathlib.Numerals.{add-one}
use native.Mathlib.Omega.{arith}
use lib.ListN.{length, take, get_or, set, length-set}
use lib.Seq.{length-take-le, get_or-set_same, get_or-set_other}
use lib.Dec.{eqb}
use borrow.Author.Tests.{eqb-true, eqb-false, eq-eqb}
use Rattle.model.specs.declared.Pending.{Pending}
use Rattle.tables.specs.Rows.{pending_of, pending_at}
use Rattle.tables.specs.Lookups.{pick_found, first_at, find_pending, row_of, Indexed}
use Rattle.tables.proofs.Bridges.{found_below}
use Rattle.tables.proofs.Cases.{by_test}

-- what a search finds where one row more is looked at
abbrev grown : Option ℕ → Bool → ℕ → Option ℕ
grown (Some j) b i = Some j
grown None b i = pick_found b (Some i) None

grown_first : (b : Bool) (f : Option ℕ) (c : Bool) (k i : ℕ) → pick_found b (Some k) (grown f c i) ≡ grown (pick_found b (Some k) f) c i
grown_first true f c k i = refl
grown_first false f c k i = refl

first_more : {A : Type 0} (f : A → Bool) (l : List A) (i k : ℕ) (d : A) → i < length l
    → first_at f (take (suc i) l) k ≡ grown (first_at f (take i l) k) (f (get_or l i d)) (k + i)
first_more f [] i k d h = absurd (omega arith)
first_more f (x ∷ xs) zero k d h = rw add-zero
first_more f (x ∷ xs) (suc i) k d h =
    let e : suc k + i ≡ k + suc i = omega arith in
    rw (first_more f xs i (suc k) d (omega arith), e) (grown_first (f x) (first_at f (take i xs) (suc k)) (f (get_or xs i d)) k (k + suc i))

pub by_found : {C : Type 0} (f : Option ℕ) → ((j : ℕ) → f ≡ Some j → C) → (f ≡ None → C) → C
by_found (Some j) f g = f j refl
by_found None f g = g refl

grown_not : (f : Option ℕ) (i : ℕ) → grown f false i ≡ f
grown_not (Some j) i = refl
grown_not None i = refl

-- what stands in a list does not depend on what stands for the rest
pub any_default : (l : List ℕ) (i d e : ℕ) → i < length l → get_or l i d ≡ get_or l i e
any_default [] i d e h = absurd (omega arith)
any_default (x ∷ xs) zero d e h = refl
any_default (x ∷ xs) (suc i) d e h = any_default xs i d e (omega arith)

pub index_start : (index : List ℕ) (es : List Pending) → length index ≡ 512 → ((o : ℕ) → get_or index o 128 ≡ 128) → Indexed index (take 0 es)
index_start index es l h = record { objects_in = l; row_at = λ o g. any_default index o 0 128 (rw l g) ∙ h o }

module _ (index : List ℕ) (es : List Pending) (i : ℕ) (h : i < length es) (small : i < 128) (x : Indexed index (take i es)) where
  found_more : (o : ℕ) → find_pending o (take (i + 1) es) ≡ grown (find_pending o (take i es)) (eqb (pending_at es i).object o) i
  found_more o = rw (add-one, first_more (λ e. eqb e.object o) es i 0 (pending_of []) h, zero-add)

  unmet : (o : ℕ) → o < 512 → 128 ≤ get_or index o 0 → find_pending o (take i es) ≡ None
  unmet o l g =
      by_found (find_pending o (take i es))
      (λ j f.
      let b = found_below o (take i es) j f in
      let t : length (take i es) ≡ i = length-take-le i es (omega arith) in
      let r = x.row_at o l ∙ ap row_of f in
      absurd (omega arith))
      (λ f. f)

  -- a row from 128 on is 128
  pub row_none : (o : ℕ) → o < 512 → 128 ≤ get_or index o 0 → get_or index o 0 ≡ 128
  row_none o l g = x.row_at o l ∙ ap row_of (unmet o l g)

  pub index_more : (o : ℕ) → (pending_at es i).object ≡ o → o < 512 → 128 ≤ get_or index o 0 → Indexed (set index o i) (take (i + 1) es)
  index_more o e l g = record {
    objects_in = simp length-set x.objects_in;
    row_at = λ p m. by_test (eqb o p)
        (λ t. rw (← eqb-true o p t, get_or-set_same index o i 0 (rw x.objects_in l), found_more o, unmet o l g, eq-eqb (pending_at es i).object o e))
        (λ t. rw (get_or-set_other index o p i 0 (λ z. eqb-false o p t (sym z)), found_more p, e, t, grown_not) (x.row_at p m));
  }
