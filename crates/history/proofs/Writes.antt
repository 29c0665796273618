-- Laws of a write: the entries and the past values that it leaves.
use Prim.Native.Nat.{ℕ, ◌<◌}
use mathlib.Core.Path.{◌≡◌, refl, ap, sym, ◌∙◌}
use mathlib.Core.Bool.{Bool, true, false}
use mathlib.Core.List.{List, [], ◌∷◌}
use lib.Dec.{eqb}
use borrow.Author.Tests.{eqb-true, eqb-false, eq-eqb, ne_eqb}
use Rattle.model.specs.declared.Pending.{Pending}
use Rattle.model.specs.Lists.{any_b, add_if}
use Rattle.model.specs.Store.{Store, live_b, Slot, none, some, lookup}
use Rattle.model.specs.Changes.{Write, put, closed, displaced, write_one, writes}
use Rattle.history.proofs.Laws.{by_test, clash, either_none}
use Rattle.history.specs.Words.{All}
use Rattle.history.proofs.Lists.{all_append, any_append}
use Rattle.history.proofs.Invariant.{Single}

-- ---- the entries after a write
abbrev pub first_of : Slot → ℕ → ℕ
first_of none t = t
first_of (some e) t = e.first

abbrev pub object_of : Slot → ℕ → ℕ
object_of none o = o
object_of (some e) o = e.object

abbrev pub entry_of : Slot → ℕ → ℕ → ℕ → Pending
entry_of x o t v = record { object = object_of x o; first = first_of x t; latest = t; value = v }

module _ (o t v : ℕ) where
  pub lookup_own : (es : List Pending) → lookup o (put o t v es) ≡ some (entry_of (lookup o es) o t v)
  lookup_own [] = rw (eq-eqb o o refl)
  lookup_own (e ∷ es) = by_test (eqb e.object o) (λ q. rw (q, q)) (λ q. rw (q, q) (lookup_own es))

  pub lookup_other : (x : ℕ) (es : List Pending) → eqb o x ≡ false → lookup x (put o t v es) ≡ lookup x es
  lookup_other x [] n = rw n
  lookup_other x (e ∷ es) n =
      by_test (eqb e.object o)
      (λ q. let m : eqb e.object x ≡ false = ap (λ y. eqb y x) (eqb-true e.object o q) ∙ n in rw (q, m))
      (λ q. rw (q, lookup_other x es n))

  pub single_put : (es : List Pending) → Single es → Single (put o t v es)
  single_put [] h = (refl, tt)
  single_put (e ∷ es) h =
      by_test (eqb e.object o)
      (λ q. rw q h)
      (λ q.
      let n : eqb o e.object ≡ false = ne_eqb o e.object (λ p. eqb-false e.object o q (sym p)) in
      rw q (lookup_other e.object es n ∙ h.0, single_put es h.1))

-- ---- the rows after a write
module _ {A : Type 0} where
  pub add_all : (P : A → Type 0) (b : Bool) (l : List A) (x : A) → All P l → (b ≡ true → P x) → All P (add_if b l x)
  add_all P true l x h k = all_append P l (x ∷ []) h (k refl, tt)
  add_all P false l x h k = h

  pub add_none : (f : A → Bool) (b : Bool) (l : List A) (x : A) → any_b f (add_if b l x) ≡ false → (any_b f l ≡ false) × (b ≡ true → f x ≡ false)
  add_none f true l x h =
      let z = either_none (any_b f l) (any_b f (x ∷ [])) (sym (any_append f l (x ∷ [])) ∙ h) in
      (z.0, λ e. (either_none (f x) false z.1).0)
  add_none f false l x h = (h, λ e. clash false e refl)

-- ---- numbers in range
pub put_objects : (o t v : ℕ) (es : List Pending) → o < 512 → All (λ e. e.object < 512) es → All (λ e. e.object < 512) (put o t v es)
put_objects o t v [] b h = (b, tt)
put_objects o t v (e ∷ es) b h =
    by_test (eqb e.object o) (λ q. rw q (h.0, h.1)) (λ q. rw q (h.0, put_objects o t v es b h.1))

pub displaced_objects : (x : Slot) (st : Store) (o t : ℕ) → o < 512 → All (λ q. q.object < 512) st.past → All (λ q. q.object < 512) (displaced x st o t)
displaced_objects none st o t b h = h
displaced_objects (some e) st o t b h =
    add_all (λ q. q.object < 512) (live_b st.horizon st.snapshots st.copies (closed e o t)) st.past (closed e o t) h (λ l. b)

-- ---- what writes leave alone
pub record Untouched (st u : Store) : Type 0 where
  pub snapshots : u.snapshots ≡ st.snapshots
  pub horizon : u.horizon ≡ st.horizon
  pub last : u.last ≡ st.last
  pub copies : u.copies ≡ st.copies

pub writes_same : (ws : List Write) (st : Store) (t : ℕ) → Untouched st (writes st t ws)
unfolding write_one
writes_same [] st t = record { snapshots = refl; horizon = refl; last = refl; copies = refl }
writes_same (w ∷ ws) st t = let ih = writes_same ws (write_one st t w.object w.value) t in record { snapshots = ih.snapshots; horizon = ih.horizon; last = ih.last; copies = ih.copies }
