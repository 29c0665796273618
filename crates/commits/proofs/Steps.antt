-- One write to the tables: the room that it takes, the past value that it adds if live, and the store that it leaves.
use Rattle.std.specs.Prelude.{Some, None}
use Prim.Native.Nat.{ℕ, ◌+◌, ◌≤◌, ◌<◌}
use mathlib.Core.Path.{◌≡◌, refl, ap, sym, ◌∙◌, subst}
use mathlib.Core.Bool.{true}
use mathlib.Core.List.{List, []}
use native.Mathlib.Numerals.{add-one}
use native.Mathlib.Omega.{arith}
use lib.ListN.{length, take, set, length-append, length-set}
use lib.Seq.{take-suc-set}
use Rattle.model.specs.declared.Past.{Past}
use Rattle.model.specs.Store.{lookup}
use Rattle.model.specs.Changes.{put, displaced, write_one}
use Rattle.tables.specs.declared.Store.{Store}
use Rattle.tables.specs.Rows.{pending_of, past_of, pendings, pasts, pending_at, up_to, touched}
use Rattle.tables.specs.Lookups.{find_pending}
use Rattle.tables.specs.Contents.{stored, Counted}
use Rattle.tables.proofs.Counts.{up_to_take, up_to_length}
use Rattle.tables.proofs.Bridges.{opened, put_row, put_next}
use Rattle.commits.specs.Rows.{one_if, new_b, live_in}
use Rattle.commits.specs.Promises.{Room, Wrote, Added, entries, value_at, joined, with_past, with_pending}
use Rattle.commits.proofs.Growth.{put_length}
use Rattle.commits.proofs.Displacing.{as_entries, in_table, entry_at, none_at}

-- ---- a past value is added, or not
module _ (s : Store) (q : Past) where
  pub add_room : live_in (stored s) q ≡ true → length (joined s q) ≤ 256 → s.heads.past < 256
  add_room e m = omega (arith, simp (length-append, up_to_length) at (rw e at m))

  pub added_yes : live_in (stored s) q ≡ true → s.heads.past < 256 → length (pasts s.written.past) ≡ 256 → {past' : List (List ℕ)} → pasts past' ≡ set (pasts s.written.past) s.heads.past q
      → Added s (with_past s past' (s.heads.past + 1)) q
  added_yes e m l {past'} w =
      let n : length (pasts past') ≡ 256 = ap length w ∙ simp length-set l in
      let b : s.heads.past < length (pasts s.written.past) = omega arith in
      record {
        contains =
            rw (e, up_to_take (past_of []) (s.heads.past + 1) (pasts past') (omega arith), up_to_take (past_of []) s.heads.past (pasts s.written.past) (omega arith), w, add-one, take-suc-set (pasts s.written.past) s.heads.past);
        count = omega arith;
        same = refl;
      }

module _ (s : Store) (p : length (pendings s.written.pending) ≡ 128) (c : Counted s.heads) (t o v : ℕ) where
  -- ---- where the object has an entry
  module _ (row : ℕ) (f : find_pending o (entries s) ≡ Some row) where
    pub over_room : Room (write_one (stored s) t o v) → length (joined s (value_at s row o t)) ≤ 256
    unfolding write_one
    over_room m = rw (entry_at s p c o row f) at m.past_room

    -- the past values, which may be more
    module _ (past' : List (List ℕ)) (n : ℕ) (g : up_to (past_of []) n (pasts past') ≡ joined s (value_at s row o t)) (m : n ≤ 256) (pending' : List (List ℕ))
        (w : pendings pending' ≡ set (pendings s.written.pending) row (touched (pending_at (pendings s.written.pending) row) t v)) where
      over_entries : take s.heads.pending (pendings pending') ≡ put o t v (entries s)
      over_entries = ap (take s.heads.pending) w ∙ sym (put_row o (pendings s.written.pending) s.heads.pending row (in_table s p c) f t v)

      over : Wrote s (with_pending (with_past s past' n) pending' s.heads.pending) t o v
      unfolding write_one
      over =
          let l : length (pendings pending') ≡ 128 = ap length w ∙ simp length-set p in
          let e : up_to (pending_of []) s.heads.pending (pendings pending') ≡ put o t v (stored s).pending =
          up_to_take (pending_of []) s.heads.pending (pendings pending') (omega arith) ∙ over_entries ∙ ap (put o t v) (sym (as_entries s p c)) in
          let d : displaced (lookup o (stored s).pending) (stored s) o t ≡ joined s (value_at s row o t) = rw (entry_at s p c o row f) in
          record {
            contains = rw (e, d, g);
            pending_rows = l;
            entered = over_entries;
            counted = record { pending_count = c.pending_count; past_count = m; snapshot_count = c.snapshot_count; copy_count = c.copy_count };
            untouched = record { disk = refl; dated = refl; snapshots = refl; copies = refl; copied = refl; snapshot_count = refl; copy_count = refl };
          }

    pub wrote_over : (s' : Store) → Added s s' (value_at s row o t) → (pending' : List (List ℕ)) → pendings pending' ≡ set (pendings s'.written.pending) row (touched (pending_at (pendings s'.written.pending) row) t v)
        → Wrote s (with_pending s' pending' s'.heads.pending) t o v
    wrote_over s' g pending' w =
        let e : with_past s s'.written.past s'.heads.past ≡ s' = sym g.same in
        let u = subst (λ (x : Store). pendings pending' ≡ set (pendings x.written.pending) row (touched (pending_at (pendings x.written.pending) row) t v)) g.same w in
        subst (λ (x : Store). Wrote s (with_pending x pending' x.heads.pending) t o v) e (over s'.written.past s'.heads.past g.contains g.count pending' u)

  -- ---- where it has none
  module _ (f : find_pending o (entries s) ≡ None) where
    pub new_room : Room (write_one (stored s) t o v) → s.heads.pending < 128
    unfolding write_one
    new_room m =
        let n = put_length o t v (stored s).pending in
        let e = ap (λ s. one_if (new_b s)) (none_at s p c o f) in
        omega (arith, e, up_to_length (pending_of []) s.heads.pending (pendings s.written.pending), m.pending_room)

    pub wrote_new : s.heads.pending < 128 → {pending' : List (List ℕ)} → pendings pending' ≡ set (pendings s.written.pending) s.heads.pending (opened o t v)
        → Wrote s (with_pending s pending' (s.heads.pending + 1)) t o v
    unfolding write_one
    wrote_new b {pending'} w =
        let n = s.heads.pending in
        let l : length (pendings pending') ≡ 128 = ap length w ∙ simp length-set p in
        let a : take (n + 1) (pendings pending') ≡ put o t v (entries s) = ap (take (n + 1)) w ∙ sym (put_next o t v (pendings s.written.pending) n (omega arith) f) in
        let e : up_to (pending_of []) (n + 1) (pendings pending') ≡ put o t v (stored s).pending =
        up_to_take (pending_of []) (n + 1) (pendings pending') (omega arith) ∙ a ∙ ap (put o t v) (sym (as_entries s p c)) in
        let d : displaced (lookup o (stored s).pending) (stored s) o t ≡ (stored s).past = rw (none_at s p c o f) in
        record {
          contains = rw (e, d);
          pending_rows = l;
          entered = a;
          counted = record { pending_count = omega arith; past_count = c.past_count; snapshot_count = c.snapshot_count; copy_count = c.copy_count };
          untouched = record { disk = refl; dated = refl; snapshots = refl; copies = refl; copied = refl; snapshot_count = refl; copy_count = refl };
        }
