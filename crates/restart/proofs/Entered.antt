-- The index of the entries, made anew: 128 for each object, then each entry's row, where no two entries are of one object.
use Rattle.std.specs.Prelude.{None}
use Prim.Native.Nat.{ℕ, zero, suc, ◌+◌, ◌<◌}
use mathlib.Core.Path.{◌≡◌, refl, ap, sym, ◌∙◌, subst}
use mathlib.Core.List.{List, [], ◌∷◌}
use native.Mathlib.Omega.{arith}
use lib.ListN.{length, take, get_or, set, replicate}
use lib.Seq.{get_or-take}
use lib.Dec.{eqb}
use borrow.Author.Tests.{eq-eqb, ne_eqb}
use Rattle.model.specs.declared.Pending.{Pending}
use Rattle.model.specs.Store.{none, some, lookup}
use Rattle.tables.specs.Rows.{pending_of, pending_at}
use Rattle.tables.specs.Lookups.{first_at, find_pending, row_of, Indexed}
use Rattle.tables.proofs.Indexing.{index_more}
use Rattle.history.specs.Words.{All}
use Rattle.history.proofs.Laws.{by_test}
use Rattle.history.proofs.Lists.{all_get_d}
use Rattle.history.proofs.Entries.{no_some}
use Rattle.history.proofs.Invariant.{Single}

-- ---- 128 for every object
pub blank_at : (n o : ℕ) → get_or {A = ℕ} (replicate n 128) o 128 ≡ 128
blank_at zero o = refl
blank_at (suc n) zero = refl
blank_at (suc n) (suc o) = blank_at n o

-- ---- an object that is not found is no entry's
other : (n : ℕ) (es : List Pending) (i o : ℕ) → i < n → i < length es → lookup o (take n es) ≡ none → (pending_at es i).object ≡ o → ⊥
other zero es i o h l f e = omega arith
other (suc n) [] i o h l f e = omega arith
other (suc n) (x ∷ es) zero o h l f e = no_some x (some x) (rw (eq-eqb x.object o e) at f) refl
other (suc n) (x ∷ es) (suc i) o h l f e =
    let ih = other n es i o (omega arith) (omega arith) in
    by_test (eqb x.object o) (λ q. no_some x (some x) (rw q at f) refl) (λ q. ih (rw q at f) e)

-- so no entry before the i-th is of its object
first_of : (n : ℕ) (es : List Pending) (i k : ℕ) → i < n → i < length es → Single (take n es)
    → first_at (λ e. eqb e.object (pending_at es i).object) (take i es) k ≡ None
first_of zero es i k h l s = absurd (omega arith)
first_of (suc n) [] i k h l s = absurd (omega arith)
first_of (suc n) (x ∷ es) zero k h l s = refl
first_of (suc n) (x ∷ es) (suc i) k h l s =
    let q = other n es i x.object (omega arith) (omega arith) s.0 in
    let ih = first_of n es i (suc k) (omega arith) (omega arith) s.1 in
    rw (ne_eqb x.object (pending_at es i).object (λ e. q (sym e))) ih

-- ---- a turn: the i-th entry enters the index
module _ (es : List Pending) (n i : ℕ) (h : i < n) (l : i < length es) where
  pub object_in : All (λ e. e.object < 512) (take n es) → (pending_at es i).object < 512
  object_in a =
      subst (λ (e : Pending). e.object < 512) (get_or-take n es i (pending_of []) h)
      (all_get_d (λ e. e.object < 512) i (take n es) (pending_of []) (omega arith) a)

  pub entered : {index : List ℕ} → i < 128 → Single (take n es) → Indexed index (take i es) → (o : ℕ) → (pending_at es i).object ≡ o → o < 512
      → Indexed (set index o i) (take (i + 1) es)
  entered {index} small s x o e b =
      let f : find_pending o (take i es) ≡ None = subst (λ (p : ℕ). find_pending p (take i es) ≡ None) e (first_of n es i 0 h l s) in
      let r : get_or index o 0 ≡ 128 = x.row_at o b ∙ ap row_of f in
      index_more index es i l small x o e b (omega arith)
