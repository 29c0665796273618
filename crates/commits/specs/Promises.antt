-- What the judge and the writer of a commit ask and promise.
use Rattle.std.specs.Prelude.{ℕ, ◌≤◌, ◌≡◌, true, false, List, [], ◌∷◌, length, take, ltb}
use Rattle.model.specs.declared.Pending.{Pending}
use Rattle.model.specs.declared.Past.{Past}
use Rattle.model.specs.Lists.{all_b, twice_b, rising_from, add_if}
use Rattle.model.specs.Store as model
use Rattle.model.specs.Changes.{Write, put, closed, write_one, commit_store}
use Rattle.tables.specs.declared.Store.{Store}
use Rattle.tables.specs.Rows.{pending_at, pendings}
use Rattle.tables.specs.Lookups.{Indexed}
use Rattle.tables.specs.Contents.{stored, Counted}
use Rattle.commits.specs.Rows.{live_in}

-- the store fits the two tables that a commit adds to
pub record Room (st : model.Store) : Type 0 where
  pub pending_room : length st.pending ≤ 128
  pub past_room : length st.past ≤ 256

-- counts within the tables, ascending snapshots, a well-formed list of objects, and an index of the entries
pub record Ready (store : Store) (os index : List ℕ) : Type 0 where
  pub counted : Counted store.heads
  pub rising : rising_from 0 (take store.heads.snapshots store.snapshots) ≡ true
  pub short : length os ≤ 16
  pub once : twice_b os ≡ false
  pub in_range : all_b (λ o. ltb o 512) os ≡ true
  pub indexed : Indexed index (take store.heads.pending (pendings store.written.pending))

-- what a commit leaves as it was: all tables but the entries and the past values, and the counts of the others
pub record Untouched (store store' : Store) : Type 0 where
  pub disk : store'.written.disk ≡ store.written.disk
  pub dated : store'.written.dated ≡ store.written.dated
  pub snapshots : store'.snapshots ≡ store.snapshots
  pub copies : store'.copies ≡ store.copies
  pub copied : store'.copied ≡ store.copied
  pub snapshot_count : store'.heads.snapshots ≡ store.heads.snapshots
  pub copy_count : store'.heads.copies ≡ store.heads.copies

pub record Applied (store store' : Store) (t : ℕ) (ws : List Write) : Type 0 where
  pub contains : stored store' ≡ commit_store (stored store) t ws
  pub counted : Counted store'.heads
  pub untouched : Untouched store store'

-- the counts are within the tables, and the snapshots ascend
pub record Sound (store : Store) : Type 0 where
  pub counted : Counted store.heads
  pub rising : rising_from 0 (take store.heads.snapshots store.snapshots) ≡ true

abbrev pub entries : Store → List Pending
entries store = take store.heads.pending (pendings store.written.pending)

-- what a write at t displaces in a row
abbrev pub value_at : Store → ℕ → ℕ → ℕ → Past
value_at store row o t = closed (pending_at (pendings store.written.pending) row) o t

-- the past values with one more, if it is live
abbrev pub joined : Store → Past → List Past
joined store q = add_if (live_in (stored store) q) (stored store).past q

-- a store with another table and count of past values, or of entries
abbrev pub with_past : Store → List (List ℕ) → ℕ → Store
with_past store past n = record {
  written = record { disk = store.written.disk; dated = store.written.dated; pending = store.written.pending; past = past };
  snapshots = store.snapshots;
  copies = store.copies;
  copied = store.copied;
  heads = record { pending = store.heads.pending; past = n; snapshots = store.heads.snapshots; copies = store.heads.copies; horizon = store.heads.horizon; last = store.heads.last };
}

abbrev pub with_pending : Store → List (List ℕ) → ℕ → Store
with_pending store pending n = record {
  written = record { disk = store.written.disk; dated = store.written.dated; pending = pending; past = store.written.past };
  snapshots = store.snapshots;
  copies = store.copies;
  copied = store.copied;
  heads = record { pending = n; past = store.heads.past; snapshots = store.heads.snapshots; copies = store.heads.copies; horizon = store.heads.horizon; last = store.heads.last };
}

-- a past value added if live
pub record Added (store store' : Store) (q : Past) : Type 0 where
  pub contains : (stored store').past ≡ joined store q
  pub count : store'.heads.past ≤ 256
  pub same : store' ≡ with_past store store'.written.past store'.heads.past

-- one write
pub record Wrote (store store' : Store) (t o v : ℕ) : Type 0 where
  pub contains : stored store' ≡ write_one (stored store) t o v
  pub pending_rows : length (pendings store'.written.pending) ≡ 128
  pub entered : entries store' ≡ put o t v (entries store)
  pub counted : Counted store'.heads
  pub untouched : Untouched store store'

-- a new entry for each write
abbrev pub opened_all : ℕ → List ℕ → List ℕ → List Pending
opened_all t [] vs = []
opened_all t (o ∷ os) [] = []
opened_all t (o ∷ os) (v ∷ vs) = record { object = o; first = t; latest = t; value = v } ∷ opened_all t os vs

-- another last commit
abbrev pub stamped : Store → ℕ → Store
stamped s t = record {
  written = s.written;
  snapshots = s.snapshots;
  copies = s.copies;
  copied = s.copied;
  heads = record { pending = s.heads.pending; past = s.heads.past; snapshots = s.heads.snapshots; copies = s.heads.copies; horizon = s.heads.horizon; last = t };
}
