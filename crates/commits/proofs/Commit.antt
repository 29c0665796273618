-- The writes of a commit to the tables, one by one: what holds before each, that room for all gives room for it, and what holds at the end.
use Rattle.std.specs.Prelude.{Some, None}
use Prim.Native.Nat.{ℕ, ◌+◌, ◌≤◌, ◌<◌}
use mathlib.Core.Path.{◌≡◌, refl, sym, ◌∙◌, subst}
use mathlib.Core.Bool.{true}
use mathlib.Core.List.{List}
use native.Mathlib.Numerals.{add-one}
use native.Mathlib.Omega.{arith}
use lib.ListN.{length, take, drop, get_or, set, drop_of_length-le}
use lib.Seq.{drop-cons}
use Rattle.model.specs.Lists.{rising_from}
use Rattle.model.specs.Store as model
use Rattle.model.specs.Changes.{paired, put, write_one, writes, last_at, commit_store}
use Rattle.tables.specs.declared.Store.{Store}
use Rattle.tables.specs.Rows.{pendings}
use Rattle.tables.specs.Lookups.{find_pending, Indexed}
use Rattle.tables.specs.Contents.{stored, Counted}
use Rattle.commits.specs.Promises.{Ready, Room, Applied, Wrote, Untouched, Sound, entries, stamped}
use Rattle.commits.proofs.Growth.{all_grown}
use Rattle.commits.proofs.Finding.{indexed_over, indexed_new}
use Rattle.commits.proofs.Distinct.{low}
use Rattle.commits.proofs.Steps.{new_room}

-- ---- a write of the model's, and what is left of the list behind it
module _ (st : model.Store) (t : ℕ) (os vs : List ℕ) (k : ℕ) where
  module _ (h : k < length os) (l : k < length vs) where
    turn : writes st t (paired (drop k os) (drop k vs)) ≡ writes (write_one st t (get_or os k 0) (get_or vs k 0)) t (paired (drop (k + 1) os) (drop (k + 1) vs))
    turn = rw (add-one, drop-cons os k 0, drop-cons vs k 0)

    room_left : {r : model.Store} → writes st t (paired (drop k os) (drop k vs)) ≡ r → Room r → Room (write_one st t (get_or os k 0) (get_or vs k 0))
    room_left e r =
        let g = all_grown t (paired (drop (k + 1) os) (drop (k + 1) vs)) (write_one st t (get_or os k 0) (get_or vs k 0)) in
        let q = subst Room (sym e ∙ turn) r in
        record { pending_room = omega arith; past_room = omega arith }

  none_left : length os ≤ k → writes st t (paired (drop k os) (drop k vs)) ≡ st
  none_left h = rw (drop_of_length-le os h)

-- the k-th object and value
pub record Turn (os vs : List ℕ) (k o v : ℕ) : Type 0 where
  pub objects_left : k < length os
  pub values_left : k < length vs
  pub object_is : o ≡ get_or os k 0
  pub value_is : v ≡ get_or vs k 0

-- ---- what holds before the k-th write, in a store that was s₀ before the first
pub record Written (t : ℕ) (os vs : List ℕ) (s₀ s : Store) (index : List ℕ) (k : ℕ) : Type 0 where
  pub pending_rows : length (pendings s.written.pending) ≡ 128
  pub counted : Counted s.heads
  pub indexed : Indexed index (entries s)
  pub untouched : Untouched s₀ s
  pub left : writes (stored s) t (paired (drop k os) (drop k vs)) ≡ commit_store (stored s₀) t (paired os vs)

untouched_both : {a b c : Store} → Untouched a b → Untouched b c → Untouched a c
untouched_both u v = record {
  disk = v.disk ∙ u.disk;
  dated = v.dated ∙ u.dated;
  snapshots = v.snapshots ∙ u.snapshots;
  copies = v.copies ∙ u.copies;
  copied = v.copied ∙ u.copied;
  snapshot_count = v.snapshot_count ∙ u.snapshot_count;
  copy_count = v.copy_count ∙ u.copy_count;
}

pub written_start : (t : ℕ) (vs : List ℕ) {s : Store} {os index : List ℕ} → Ready s os index → length (pendings s.written.pending) ≡ 128 → Written t os vs s (stamped s t) index 0
unfolding last_at
written_start t vs r p =
    let c = r.counted in
    record {
      pending_rows = p;
      counted = record { pending_count = c.pending_count; past_count = c.past_count; snapshot_count = c.snapshot_count; copy_count = c.copy_count };
      indexed = r.indexed;
      untouched = record { disk = refl; dated = refl; snapshots = refl; copies = refl; copied = refl; snapshot_count = refl; copy_count = refl };
      left = refl;
    }

module _ {t : ℕ} {os vs : List ℕ} {s₀ s : Store} {index : List ℕ} {k : ℕ} (w : Written t os vs s₀ s index k) where
  pub written_end : length os ≤ k → Applied s₀ s t (paired os vs)
  written_end b = record { contains = sym (none_left (stored s) t os vs k b) ∙ w.left; counted = w.counted; untouched = w.untouched }

  module _ {index₀ : List ℕ} (r : Ready s₀ os index₀) where
    pub written_sound : Sound s
    written_sound =
        let u = w.untouched in
        record {
          counted = w.counted;
          rising = subst (λ n. rising_from 0 (take n s.snapshots) ≡ true) (sym u.snapshot_count) (subst (λ l. rising_from 0 (take s₀.heads.snapshots l) ≡ true) (sym u.snapshots) r.rising);
        }

    -- the k-th write
    module _ {o v : ℕ} (p : Turn os vs k o v) where
      pub object_low : o < 512
      object_low = rw p.object_is (low os r.in_range k p.objects_left)

      pub written_room : Room (commit_store (stored s₀) t (paired os vs)) → Room (write_one (stored s) t o v)
      written_room q = rw (p.object_is, p.value_is) (room_left (stored s) t os vs k p.objects_left p.values_left w.left q)

      module _ {s' : Store} (q : Wrote s s' t o v) where
        next : {index' : List ℕ} → Indexed index' (put o t v (entries s)) → Written t os vs s₀ s' index' (k + 1)
        next x = record {
          pending_rows = q.pending_rows;
          counted = q.counted;
          indexed = rw q.entered x;
          untouched = untouched_both w.untouched q.untouched;
          left = rw q.contains (rw (p.object_is, p.value_is) (sym (turn (stored s) t os vs k p.objects_left p.values_left)) ∙ w.left);
        }

        pub written_over : {row : ℕ} → find_pending o (entries s) ≡ Some row → Written t os vs s₀ s' index (k + 1)
        written_over {row} g = next (indexed_over o t v (entries s) w.indexed row g)

        pub written_new : find_pending o (entries s) ≡ None → Room (commit_store (stored s₀) t (paired os vs)) → Written t os vs s₀ s' (set index o s.heads.pending) (k + 1)
        written_new g d =
            let n = new_room s w.pending_rows w.counted t o v g (written_room d) in
            next (indexed_new o t v (pendings s.written.pending) s.heads.pending w.indexed (omega arith) n g object_low)
