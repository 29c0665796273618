-- What the replay of a record asks and promises.
use Rattle.std.specs.Prelude.{ℕ, ◌≡◌, Bool, true, false, List, length, replicate}
use Rattle.model.specs.declared.Pending.{Pending}
use Rattle.model.specs.declared.Verdict.{Verdict}
use Rattle.model.specs.declared.Verdict.TheVariants.{Accepted, Idle, Refused}
use Rattle.model.specs.Lists.{pick}
use Rattle.model.specs.Store as model
use Rattle.model.specs.Changes.{Change, flush, after}
use Rattle.model.specs.Judgement.{judge}
use Rattle.model.specs.Records.{Step, end, short, malformed, whole, step_at}
use Rattle.journal.specs.declared.walk.Record.{Record}
use Rattle.journal.specs.Heads.{head_of}
use Rattle.tables.specs.declared.Store.{Store}
use Rattle.tables.specs.Lookups.{Indexed}
use Rattle.tables.specs.Contents.{stored, Counted}
use Rattle.history.proofs.Invariant.{Whole}

-- a disk of a fresh store
unfoldable pub zeros : List ℕ
zeros = replicate 512 0

-- the change at a place, where a whole record stands there
abbrev pub change_of : Step → Change
change_of end = flush 0
change_of short = flush 0
change_of (malformed offset) = flush 0
change_of (whole c next) = c

abbrev pub change_at : List ℕ → ℕ → Change
change_at j at = change_of (step_at j at)

-- a whole record stands at the place, and r is its head
pub record Stands (j : List ℕ) (at : ℕ) (r : Record) : Type 0 where
  pub next : ℕ
  pub step : step_at j at ≡ whole (change_at j at) next
  pub told : head_of (change_at j at) ≡ r

-- the struct holds a store that accepted changes leave
pub record Held (s : Store) : Type 0 where
  pub counted : Counted s.heads
  pub whole : Whole (stored s)

abbrev pub accepted_b : Verdict → Bool
accepted_b Accepted = true
accepted_b Idle = false
accepted_b (Refused a) = false

-- a whole index, which tells the entries' rows where it is said to
pub record Follows (b : Bool) (index : List ℕ) (es : List Pending) : Type 0 where
  pub objects_in : length index ≡ 512
  pub tells : b ≡ true → Indexed index es

-- the change is carried out if the store accepts it, and else nothing changes
pub record Turned (st : model.Store) (c : Change) (accepted : Bool) (st' : model.Store) : Type 0 where
  pub says : accepted ≡ accepted_b (judge st c)
  pub contains : st' ≡ pick accepted (after st c) st

-- the same where the struct s' holds what is left, with counts within its tables
pub record Carried (st : model.Store) (c : Change) (accepted : Bool) (s' : Store) : Type 0 where
  pub turned : Turned st c accepted (stored s')
  pub counted : Counted s'.heads

-- the entries are as they were
pub record EntriesKept (s s' : Store) : Type 0 where
  pub rows : s'.written.pending ≡ s.written.pending
  pub count : s'.heads.pending ≡ s.heads.pending
