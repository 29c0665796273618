-- The stand-ins that have to be rejected (document 01, "What the proofs must settle"), and the promises that they break: each call
-- is asked for its outcome only where a run reaches.
use Rattle.std.specs.Prelude.{ℕ, ◌≡◌, List, length, take, replicate}
use Rattle.model.specs.declared.Figures.{Figures}
use Rattle.model.specs.Answers.{code_of}
use Rattle.model.specs.Store.{Store, page_now}
use Rattle.model.specs.Changes.{paired, commit_store}
use Rattle.model.specs.Reads.{Shown, snapshot_read, Stood, lag_of, standing}
use Rattle.model.specs.Calls.{Outcome, commit_call, flush_call}
use Rattle.history.specs.Runs.{AfterAnyRun}
use Rattle.history.specs.Demands.{NotDone}

-- ---- a commit
abbrev pub CommitLike : Type 0
CommitLike = (st : Store) (j : List ℕ) (used t : ℕ) (os vs : List ℕ) → Outcome

abbrev pub KeepsCommit : CommitLike → Type 0
KeepsCommit f =
    AfterAnyRun
    (λ m. (t : ℕ) (os vs : List ℕ) → f m.store m.journal m.place t os vs ≡ commit_call m.store m.journal m.place t os vs)

-- "a store that refuses everything"
abbrev pub RefusesAll : CommitLike → Type 0
RefusesAll f = (st : Store) (j : List ℕ) (used t : ℕ) (os vs : List ℕ) → NotDone (f st j used t os vs).answer

-- "a commit .. that does nothing": to the store, or to the journal
abbrev pub CommitsNothing : CommitLike → Type 0
CommitsNothing f = (st : Store) (j : List ℕ) (used t : ℕ) (os vs : List ℕ) → (f st j used t os vs).store ≡ st

abbrev pub CommitsUnwritten : CommitLike → Type 0
CommitsUnwritten f = (st : Store) (j : List ℕ) (used t : ℕ) (os vs : List ℕ) → (f st j used t os vs).journal ≡ j

-- "a commit that stores its first write and only reports the others"
abbrev pub CommitsFirst : CommitLike → Type 0
CommitsFirst f =
    (st : Store) (j : List ℕ) (used t : ℕ) (os vs : List ℕ) → code_of (f st j used t os vs).answer ≡ 0
    → (f st j used t os vs).store ≡ commit_store st t (take 1 (paired os vs))

-- ---- a flush
abbrev pub FlushLike : Type 0
FlushLike = (st : Store) (j : List ℕ) (used p : ℕ) → Outcome

abbrev pub KeepsFlush : FlushLike → Type 0
KeepsFlush f = AfterAnyRun (λ m. (p : ℕ) → f m.store m.journal m.place p ≡ flush_call m.store m.journal m.place p)

-- "a .. flush that does nothing"
abbrev pub FlushesNothing : FlushLike → Type 0
FlushesNothing f = (st : Store) (j : List ℕ) (used p : ℕ) → (f st j used p).store ≡ st

abbrev pub FlushesUnwritten : FlushLike → Type 0
FlushesUnwritten f = (st : Store) (j : List ℕ) (used p : ℕ) → (f st j used p).journal ≡ j

-- ---- a read
abbrev pub ReadLike : Type 0
ReadLike = (st : Store) (time p : ℕ) (buffer : List ℕ) → Shown

abbrev pub KeepsRead : ReadLike → Type 0
KeepsRead f = AfterAnyRun (λ m. (time p : ℕ) (buffer : List ℕ) → f m.store time p buffer ≡ snapshot_read m.store time p buffer)

-- "a read that always shows zeros or the current page"
abbrev pub ShowsZeros : ReadLike → Type 0
ShowsZeros f = (st : Store) (time p : ℕ) (buffer : List ℕ) → (f st time p buffer).buffer ≡ replicate 16 0

abbrev pub ShowsCurrent : ReadLike → Type 0
ShowsCurrent f = (st : Store) (time p : ℕ) (buffer : List ℕ) → (f st time p buffer).buffer ≡ page_now st p

-- ---- standing
abbrev pub KeepsStanding : (Store → Stood) → Type 0
KeepsStanding f = AfterAnyRun (λ m. f m.store ≡ standing m.store)

-- the figures that standing owes
abbrev pub counts_of : Store → Figures
counts_of st = record {
  pending = length st.pending;
  past = length st.past;
  snapshots = length st.snapshots;
  copies = length st.copies;
  lag = lag_of st;
}

-- "a Standing with invented counts": the same figures for all stores
abbrev pub Invents : (Store → Stood) → Type 0
Invents f = (st u : Store) → (f st).figures ≡ (f u).figures
