-- What the judge and the writer of a flush ask and promise.
use Rattle.std.specs.Prelude.{ℕ, ◌≤◌, ◌<◌, ◌≡◌, true, false, List, map, length, take}
use Rattle.model.specs.Lists.{kept, rising_from, twice_b}
use Rattle.model.specs.Store as model
use Rattle.model.specs.Changes.{dues, copies_after, flush_store}
use Rattle.tables.specs.declared.Store.{Store}
use Rattle.tables.specs.Rows.{pendings, pasts}
use Rattle.tables.specs.Contents.{stored, Laid, Counted}
use Rattle.shares.specs.Shares.{Shared}
use Rattle.flushes.specs.declared.Plan.{Plan}
use Rattle.flushes.specs.Parts.{rule_of, stays_under}

-- every table has the rows that its type says
abbrev pub Whole : Store → Type 0
Whole s = Laid s.written.disk s.written.dated s.written.pending s.written.past s.snapshots s.copies s.copied

-- counts within the tables, a page of the store, one entry an object, the known snapshots in order
pub record Ready (store : Store) (page : ℕ) : Type 0 where
  pub counted : Counted store.heads
  pub in_range : page < 32
  pub single : twice_b (map (λ e. e.object) (take store.heads.pending (pendings store.written.pending))) ≡ false
  pub rising : rising_from 0 (take store.heads.snapshots store.snapshots) ≡ true

-- the due snapshots of a page, listed, and the page's mark once they are archived
pub record Listed (st : model.Store) (page : ℕ) (due : List ℕ) (marked : ℕ) : Type 0 where
  pub listed : due ≡ dues st page st.snapshots
  pub marks : marked ≡ model.mark (copies_after st page) page

-- what the judge found is so: the due snapshots and the mark, the page's share of the tables, and how many past rows stay
pub record Planned (store : Store) (page : ℕ) (plan : Plan) : Type 0 where
  pub lists : Listed (stored store) page plan.due.items plan.mark
  pub shares : Shared store.written store.heads page plan.share
  pub stay : plan.staying ≡ length (kept (stays_under store.snapshots (rule_of store.heads page plan.mark)) (take store.heads.past (pasts store.written.past)))

-- the store fits the two tables that a flush adds to
pub record Room (st : model.Store) : Type 0 where
  pub copy_room : length st.copies ≤ 128
  pub past_room : length st.past ≤ 256

-- what the writer leaves: the model's store, counts within its tables, the known snapshots as they were
pub record Applied (before : Store) (page : ℕ) (store : Store) : Type 0 where
  pub contains : stored store ≡ flush_store (stored before) page
  pub counted : Counted store.heads
  pub known : store.snapshots ≡ before.snapshots
