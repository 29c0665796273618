-- What the writer of a gossip message asks and promises.
use Rattle.std.specs.Prelude.{ℕ, ◌+◌, ◌≤◌, ◌≡◌, true, List, [], ◌∷◌, ◌++◌, length, take, drop, ltb, leb, Option, Some, None}
use Rattle.model.specs.Lists.{all_b, kept, rising_from}
use Rattle.model.specs.Store.{live_b}
use Rattle.model.specs.Judgement as judgement
use Rattle.model.specs.Changes.{gossip_store}
use Rattle.tables.specs.declared.Store.{Store}
use Rattle.tables.specs.Rows.{copy_heads}
use Rattle.tables.specs.Contents.{stored, Counted}

-- the first stamp in which two lists differ, where they do
abbrev pub differing_in : judgement.Compared → Option ℕ
differing_in judgement.same = None
differing_in (judgement.differ s) = Some s

-- the first of the stamps up to a bound from i on, if there is one: it stands at i
abbrev pub Told : List ℕ → ℕ → ℕ → Option ℕ → Type 0
Told stamps upto i None = kept (λ s. leb s upto) (drop i stamps) ≡ []
Told stamps upto i (Some s) = kept (λ s. leb s upto) (drop i stamps) ≡ s ∷ kept (λ s. leb s upto) (drop (i + 1) stamps)

-- the stamps beyond the horizon stand behind the first n snapshots; r is the new count
pub record Added (snapshots snapshots' : List ℕ) (n r horizon : ℕ) (stamps : List ℕ) : Type 0 where
  pub known : take r snapshots' ≡ take n snapshots ++ kept (ltb horizon) stamps
  pub count : r ≡ n + length (kept (ltb horizon) stamps)
  pub words : length snapshots' ≡ 64

-- the stamps ascend, and so do the known snapshots with the new ones behind them
pub record Ready (store : Store) (stamps : List ℕ) : Type 0 where
  pub counted : Counted store.heads
  pub pages_in : all_b (λ c. ltb c.page 32) (take store.heads.copies (copy_heads store.copies)) ≡ true
  pub room : store.heads.snapshots + length (kept (ltb store.heads.horizon) stamps) ≤ 64
  pub stamps_rise : rising_from 0 stamps ≡ true
  pub rising : rising_from 0 (take store.heads.snapshots store.snapshots ++ kept (ltb store.heads.horizon) stamps) ≡ true

-- what a message leaves as it was: all tables but the snapshots and the past values, and the counts of the others
pub record Untouched (store store' : Store) : Type 0 where
  pub disk : store'.written.disk ≡ store.written.disk
  pub dated : store'.written.dated ≡ store.written.dated
  pub pending : store'.written.pending ≡ store.written.pending
  pub copies : store'.copies ≡ store.copies
  pub copied : store'.copied ≡ store.copied
  pub pending_count : store'.heads.pending ≡ store.heads.pending
  pub copy_count : store'.heads.copies ≡ store.heads.copies

pub record Applied (store store' : Store) (curr : ℕ) (stamps : List ℕ) : Type 0 where
  pub contains : stored store' ≡ gossip_store (stored store) curr stamps
  pub counted : Counted store'.heads
  pub untouched : Untouched store store'

-- a store with another table and count of past values
abbrev pub with_past : Store → List (List ℕ) → ℕ → Store
with_past store past n = record {
  written = record { disk = store.written.disk; dated = store.written.dated; pending = store.written.pending; past = past };
  snapshots = store.snapshots;
  copies = store.copies;
  copied = store.copied;
  heads = record { pending = store.heads.pending; past = n; snapshots = store.heads.snapshots; copies = store.heads.copies; horizon = store.heads.horizon; last = store.heads.last };
}

-- the past values that are live by a horizon are left, and nothing else has changed
pub record LivesOn (store store' : Store) (horizon : ℕ) : Type 0 where
  pub live : (stored store').past ≡ kept (live_b horizon (stored store).snapshots (stored store).copies) (stored store).past
  pub count : store'.heads.past ≤ store.heads.past
  pub same : store' ≡ with_past store store'.written.past store'.heads.past

-- a store with other snapshots, or another horizon
abbrev pub with_snapshots : Store → List ℕ → ℕ → Store
with_snapshots store snapshots n = record {
  written = store.written;
  snapshots = snapshots;
  copies = store.copies;
  copied = store.copied;
  heads = record { pending = store.heads.pending; past = store.heads.past; snapshots = n; copies = store.heads.copies; horizon = store.heads.horizon; last = store.heads.last };
}

abbrev pub with_horizon : Store → ℕ → Store
with_horizon store horizon = record {
  written = store.written;
  snapshots = store.snapshots;
  copies = store.copies;
  copied = store.copied;
  heads = record { pending = store.heads.pending; past = store.heads.past; snapshots = store.heads.snapshots; copies = store.heads.copies; horizon = horizon; last = store.heads.last };
}
