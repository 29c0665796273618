-- What a commit adds to its two tables, counted over the store before it; and that no write makes a table shorter.
use Prim.Native.Nat.{ℕ, ◌+◌, ◌≤◌}
use mathlib.Core.Path.{◌≡◌, refl}
use mathlib.Core.Bool.{Bool, true, false}
use mathlib.Core.List.{List, [], ◌∷◌, map}
use native.Mathlib.Omega.{arith}
use lib.ListN.{length, length-append}
use lib.Dec.{eqb}
use Rattle.model.specs.declared.Pending.{Pending}
use Rattle.model.specs.Lists.{add_if, twice_b}
use Rattle.model.specs.Store.{Store, Slot, none, some, lookup}
use Rattle.model.specs.Changes.{Write, paired, put, closed, displaced, write_one, writes}
use Rattle.tables.proofs.Cases.{by_test}
use Rattle.commits.specs.Rows.{one_if, trues, new_in, live_in, displaces_b, displaces_in}
use Rattle.commits.proofs.Distinct.{once_rest, map_off, lookup_other}

-- ---- one write
pub put_length : (o t v : ℕ) (es : List Pending) → length (put o t v es) ≡ length es + one_if (new_in es o)
put_length o t v [] = refl
put_length o t v (e ∷ es) =
    let ih = put_length o t v es in
    by_test (eqb e.object o) (λ q. rw q (omega arith)) (λ q. rw q (omega arith))

add_length : {A : Type 0} (b : Bool) (xs : List A) (x : A) → length (add_if b xs x) ≡ length xs + one_if b
add_length true xs x = simp length-append
add_length false xs x = omega arith

displaced_length : (s : Slot) (st : Store) (o t : ℕ) → length (displaced s st o t) ≡ length st.past + one_if (displaces_b (live_in st) t o s)
displaced_length none st o t = omega arith
displaced_length (some e) st o t = add_length (live_in st (closed e o t)) st.past (closed e o t)

-- ---- the writes of a list that names no object twice
module _ (t : ℕ) where
  pub pending_growth : (os vs : List ℕ) (st : Store) → length vs ≡ length os → twice_b os ≡ false
      → length (writes st t (paired os vs)).pending ≡ length st.pending + trues (map (new_in st.pending) os)
  unfolding write_one
  pending_growth [] vs st l n = omega arith
  pending_growth (o ∷ os) [] st l n = absurd (omega arith)
  pending_growth (o ∷ os) (v ∷ vs) st l n =
      let u = once_rest o os n in
      let ih = pending_growth os vs (write_one st t o v) (omega arith) u.1 in
      let m = map_off (new_in (put o t v st.pending)) (new_in st.pending) o (λ x e. rw (lookup_other o t v x e st.pending)) os u.0 in
      omega (arith, rw m at ih, put_length o t v st.pending)

  pub past_growth : (os vs : List ℕ) (st : Store) → length vs ≡ length os → twice_b os ≡ false
      → length (writes st t (paired os vs)).past ≡ length st.past + trues (map (displaces_in (live_in st) t st.pending) os)
  unfolding write_one
  past_growth [] vs st l n = omega arith
  past_growth (o ∷ os) [] st l n = absurd (omega arith)
  past_growth (o ∷ os) (v ∷ vs) st l n =
      let u = once_rest o os n in
      let ih = past_growth os vs (write_one st t o v) (omega arith) u.1 in
      let w = displaces_in (live_in st) t in
      let m = map_off (w (put o t v st.pending)) (w st.pending) o (λ x e. rw (lookup_other o t v x e st.pending)) os u.0 in
      omega (arith, rw m at ih, displaced_length (lookup o st.pending) st o t)

-- ---- no table gets shorter
pub record Grown (st r : Store) : Type 0 where
  pub pending_grown : length st.pending ≤ length r.pending
  pub past_grown : length st.past ≤ length r.past

one_grown : (st : Store) (t o v : ℕ) → Grown st (write_one st t o v)
unfolding write_one
one_grown st t o v = record {
  pending_grown = omega (arith, put_length o t v st.pending);
  past_grown = omega (arith, displaced_length (lookup o st.pending) st o t);
}

pub all_grown : (t : ℕ) (ws : List Write) (st : Store) → Grown st (writes st t ws)
all_grown t [] st = record { pending_grown = omega arith; past_grown = omega arith }
all_grown t (w ∷ ws) st =
    let a = one_grown st t w.object w.value in
    let b = all_grown t ws (write_one st t w.object w.value) in
    record { pending_grown = omega arith; past_grown = omega arith }
