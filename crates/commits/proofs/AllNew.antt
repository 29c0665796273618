-- A commit on a store that has no entries: every write adds one and displaces nothing. The store that it leaves, which fits; and the loop that writes its entries.
use Prim.Native.Nat.{ℕ, ◌+◌, ◌≤◌, ◌<◌}
use mathlib.Core.Path.{◌≡◌, refl, ap, sym, ◌∙◌}
use mathlib.Core.Bool.{true, false}
use mathlib.Core.List.{List, [], ◌∷◌, ◌++◌, map, append-nil, append_assoc}
use native.Mathlib.Numerals.{add-one}
use native.Mathlib.Omega.{arith}
use lib.ListN.{length, take, drop, get_or, set, drop_of_length-le}
use lib.Seq.{drop-cons, take-suc-set}
use lib.Dec.{eqb}
use Rattle.model.specs.declared.Pending.{Pending}
use Rattle.model.specs.Lists.{twice_b}
use Rattle.model.specs.Store.{Store, Slot, none, some, lookup}
use Rattle.model.specs.Changes.{paired, put, displaced, write_one, writes, last_at, commit_store}
use Rattle.tables.specs.declared.Heads.{Heads}
use Rattle.tables.specs.declared.Store as tables
use Rattle.tables.specs.Rows.{pending_of, past_of, pendings, pasts, up_to}
use Rattle.tables.specs.Contents.{contents, stored, Counted}
use Rattle.tables.proofs.Bridges.{opened}
use Rattle.tables.proofs.Cases.{by_test, clash}
use Rattle.tables.proofs.Counts.{up_to_length, up_to_take}
use Rattle.commits.specs.Rows.{new_b, new_in}
use Rattle.commits.specs.Promises.{Room, Applied, with_pending, stamped, opened_all}
use Rattle.commits.proofs.Distinct.{once_rest, map_off, lookup_other}

opened_length : (t : ℕ) (os vs : List ℕ) → length (opened_all t os vs) ≤ length os
opened_length t [] vs = omega arith
opened_length t (o ∷ os) [] = omega arith
opened_length t (o ∷ os) (v ∷ vs) = omega (arith, opened_length t os vs)

-- a store with other entries
abbrev holding : Store → List Pending → Store
holding st es = record {
  values = st.values;
  stamps = st.stamps;
  pending = es;
  past = st.past;
  snapshots = st.snapshots;
  horizon = st.horizon;
  last = st.last;
  copies = st.copies;
}

-- ---- one write of an object that has no entry
module _ (t o v : ℕ) where
  put_new : (es : List Pending) → new_in es o ≡ true → put o t v es ≡ es ++ (opened o t v ∷ [])
  put_new [] n = refl
  put_new (e ∷ es) n =
      let ih = put_new es in
      by_test (eqb e.object o) (λ q. clash (sym (rw q at n))) (λ q. rw q (ap (λ l. e ∷ l) (ih (rw q at n))))

  displaced_new : (s : Slot) (st : Store) → new_b s ≡ true → displaced s st o t ≡ st.past
  displaced_new none st n = refl
  displaced_new (some e) st n = clash (sym n)

  write_new : (st : Store) → new_in st.pending o ≡ true → write_one st t o v ≡ holding st (st.pending ++ (opened o t v ∷ []))
  unfolding write_one
  write_new st n = rw (put_new st.pending n, displaced_new (lookup o st.pending) st n)

-- ---- all of them: none has an entry, and none is named twice
abbrev New : List Pending → List ℕ → Type 0
New es os = map (new_in es) os ≡ map (λ o. true) os

module _ (t : ℕ) where
  new_rest : (o v : ℕ) (os : List ℕ) (es : List Pending) → new_in es o ≡ true → twice_b (o ∷ os) ≡ false → New es (o ∷ os) → New (es ++ (opened o t v ∷ [])) os
  new_rest o v os es n d e =
      rw (← put_new t o v es n)
      (map_off (new_in (put o t v es)) (new_in es) o (λ x q. rw (lookup_other o t v x q es)) os (once_rest o os d).0 ∙ ap (drop 1) e)

  writes_new : (os vs : List ℕ) (st : Store) → twice_b os ≡ false → New st.pending os → writes st t (paired os vs) ≡ holding st (st.pending ++ opened_all t os vs)
  writes_new [] vs st d e = rw (append-nil st.pending)
  writes_new (o ∷ os) [] st d e = rw (append-nil st.pending)
  writes_new (o ∷ os) (v ∷ vs) st d e =
      let n : new_in st.pending o ≡ true = ap (λ l. get_or l 0 false) e in
      let ih = writes_new os vs (holding st (st.pending ++ (opened o t v ∷ []))) (once_rest o os d).1 (new_rest o v os st.pending n d e) in
      ap (λ s. writes s t (paired os vs)) (write_new t o v st n) ∙ ih ∙ ap (holding st) (append_assoc st.pending (opened o t v ∷ []) (opened_all t os vs))

  commit_new : (os vs : List ℕ) (st : Store) → st.pending ≡ [] → twice_b os ≡ false → commit_store st t (paired os vs) ≡ holding (last_at st t) (opened_all t os vs)
  unfolding last_at
  commit_new os vs st e d = writes_new os vs (last_at st t) d (rw e) ∙ rw e

-- the entries that a count of 0 shows
none_pending : (pending : List (List ℕ)) (h : Heads) → h.pending ≡ 0 → up_to (pending_of []) h.pending (pendings pending) ≡ []
none_pending pending h e = rw e

-- there is room for them: at most 16 entries come, and no past value
pub new_room : (h : Heads) (t : ℕ) (os vs : List ℕ) → h.pending ≡ 0 → Counted h → length os ≤ 16 → twice_b os ≡ false
    → (disk dated : List ℕ) (pending past : List (List ℕ)) (snapshots : List ℕ) (copies : List (List ℕ)) (copied : List ℕ)
    → Room (commit_store (contents disk dated pending past snapshots copies copied h) t (paired os vs))
unfolding last_at
new_room h t os vs e c s d disk dated pending past snapshots copies copied =
    let a = commit_new t os vs (contents disk dated pending past snapshots copies copied h) (none_pending pending h e) d in
    record {
      pending_room = rw a (omega (arith, opened_length t os vs));
      past_room = rw (a, up_to_length (past_of []) h.past (pasts past)) c.past_count;
    }

-- ---- the loop: the entries of the first k writes, with those to come, are all
module _ (t : ℕ) (os vs : List ℕ) where
  abbrev pub Adding : List Pending → ℕ → Type 0
  Adding ps k = take k ps ++ opened_all t (drop k os) (drop k vs) ≡ opened_all t os vs

  module _ (ps : List Pending) (k : ℕ) (w : Adding ps k) where
    pub adding_next : length vs ≡ length os → k < length os → k < length ps → Adding (set ps k (opened (get_or os k 0) t (get_or vs k 0))) (k + 1)
    adding_next m b p =
        let c : k < length vs = omega arith in
        rw (add-one, take-suc-set ps k, append_assoc) (rw (drop-cons os k 0, drop-cons vs k 0) at w)

    adding_taken : length os ≤ k → take k ps ≡ opened_all t os vs
    adding_taken b = sym (append-nil (take k ps)) ∙ (rw (drop_of_length-le os b) at w)

    pub adding_all : length os ≡ k → k ≤ length ps → up_to (pending_of []) (length os) ps ≡ opened_all t os vs
    adding_all e b = rw e (up_to_take (pending_of []) k ps b ∙ adding_taken (omega arith))

  -- the store after the commit holds them
  pub entered_all : {s : tables.Store} → s.heads.pending ≡ 0 → Counted s.heads → length os ≤ 16 → twice_b os ≡ false → (pending : List (List ℕ)) → up_to (pending_of []) (length os) (pendings pending) ≡ opened_all t os vs
      → Applied s (stamped (with_pending s pending (length os)) t) t (paired os vs)
  unfolding last_at
  entered_all {s} e c m d pending f = record {
    contains = ap (holding (last_at (stored s) t)) f ∙ sym (commit_new t os vs (stored s) (none_pending s.written.pending s.heads e) d);
    counted = record { pending_count = omega arith; past_count = c.past_count; snapshot_count = c.snapshot_count; copy_count = c.copy_count };
    untouched = record { disk = refl; dated = refl; snapshots = refl; copies = refl; copied = refl; snapshot_count = refl; copy_count = refl };
  }
