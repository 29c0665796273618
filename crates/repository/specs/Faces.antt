-- What the face promises: the struct's fields are a store of the model, and each call's reply tells the model's answer.
use Rattle.std.specs.Prelude.{ℕ, ◌≡◌, List, length}
use Rattle.model.specs.declared.Answer.{Answer}
use Rattle.model.specs.Answers.{code_of, number_of}
use Rattle.model.specs.Store as model
use Rattle.model.specs.Calls.{Outcome}
use Rattle.model.specs.Reads as reads
use Rattle.model.specs.Restart as starts
use Rattle.reads.specs.Knows.{padded}
use Rattle.repository.specs.declared.replies.Moved.{Moved}
use Rattle.repository.specs.declared.replies.Reply.{Reply}
use Rattle.repository.specs.declared.replies.Report.{Report}
use Rattle.repository.specs.declared.replies.Knowledge.{Knowledge}

-- an answer and a place, as the caller is told them
pub record Told (answer : Answer) (place : ℕ) (r : Moved) : Type 0 where
  pub coded : r.code ≡ code_of answer
  pub numbered : r.number ≡ number_of answer
  pub placed : r.place ≡ place

-- a change: code, number, place, contents of the store, every byte of the journal
pub record Changed (x : Outcome) (r : Moved) (store : model.Store) (journal : List ℕ) : Type 0 where
  pub coded : r.code ≡ code_of x.answer
  pub numbered : r.number ≡ number_of x.answer
  pub placed : r.place ≡ x.place
  pub contains : store ≡ x.store
  pub journal_is : journal ≡ x.journal

-- fresh and restart: code, number, place, contents of the store
pub record Begun (x : starts.Restarted) (r : Moved) (store : model.Store) : Type 0 where
  pub coded : r.code ≡ code_of x.answer
  pub numbered : r.number ≡ number_of x.answer
  pub placed : r.place ≡ x.place
  pub contains : store ≡ x.store

-- a read: code, number, the whole buffer
pub record Shown (x : reads.Shown) (r : Reply) (buffer : List ℕ) : Type 0 where
  pub coded : r.code ≡ code_of x.answer
  pub numbered : r.number ≡ number_of x.answer
  pub filled : buffer ≡ x.buffer

-- standing: code, number, the five figures
pub record Stood (x : reads.Stood) (r : Report) : Type 0 where
  pub coded : r.code ≡ code_of x.answer
  pub numbered : r.number ≡ number_of x.answer
  pub pendings : r.pending ≡ x.figures.pending
  pub pasts : r.past ≡ x.figures.past
  pub known : r.snapshots ≡ x.figures.snapshots
  pub copied : r.copies ≡ x.figures.copies
  pub lagging : r.lag ≡ x.figures.lag

-- known: code, number, the horizon, the last commit, the count of snapshots and the whole array of their stamps
pub record Knew (x : reads.Knowledge) (r : Knowledge) : Type 0 where
  pub coded : r.code ≡ code_of x.answer
  pub numbered : r.number ≡ number_of x.answer
  pub horizon_is : r.horizon ≡ x.horizon
  pub last_is : r.last ≡ x.last
  pub counted : r.count ≡ length x.snapshots
  pub listed : r.stamps ≡ padded x.snapshots
