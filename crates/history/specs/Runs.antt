-- Any run of calls, fresh starts and restarts, with the bytes of the journal; and the history that a reader of those bytes finds.
use Rattle.std.specs.Prelude.{ℕ, zero, suc, ◌^◌, ◌<◌, List, [], ◌∷◌, ◌++◌, length, take}
use Rattle.model.specs.Lists.{pick}
use Rattle.model.specs.Answers.{is_done}
use Rattle.model.specs.Store.{Store, fresh}
use Rattle.model.specs.Changes.{Change, commit, gossip, flush, paired}
use Rattle.model.specs.Records.{encode, Step, end, short, malformed, whole, step_at}
use Rattle.model.specs.Calls.{version, Outcome, commit_call, gossip_call, flush_call}
use Rattle.model.specs.Restart.{fresh_start, restart}
use Rattle.history.specs.Words.{All, Below}

-- ---- a store, the journal that is lent to its calls, and the place that the last call gave
pub record Machine : Type 0 where
  pub store : Store
  pub journal : List ℕ
  pub place : ℕ

abbrev pub started : List ℕ → Machine
started j = record { store = fresh; journal = j; place = 0 }

-- the used bytes
abbrev pub used : Machine → List ℕ
used m = take m.place m.journal

-- ---- what may happen: a call with any arguments, or a cut
pub data Event : Type 0 where
  call_commit : (stamp : ℕ) (objects values : List ℕ) → Event
  call_gossip : (prev curr : ℕ) (stamps : List ℕ) → Event
  call_flush : (page : ℕ) → Event
  -- a snapshot, clock or current read, or standing: they are given the store and hand back none
  call_read : Event
  call_fresh : Event
  -- a restart from the first n of the used bytes, or all where n is beyond them; others: see restarted
  cut : (n : ℕ) (others : List ℕ) → Event

abbrev pub left : Outcome → Machine
left o = record { store = o.store; journal = o.journal; place = o.place }

-- the journal that is lent after a restart holds the bytes that it took, and then any others
abbrev pub restarted : List ℕ → List ℕ → Machine
restarted bytes others =
    let r = restart bytes in
    record { store = r.store; journal = take r.place bytes ++ others; place = r.place }

abbrev pub happens : Machine → Event → Machine
happens m (call_commit t os vs) = left (commit_call m.store m.journal m.place t os vs)
happens m (call_gossip prev curr stamps) = left (gossip_call m.store m.journal m.place prev curr stamps)
happens m (call_flush p) = left (flush_call m.store m.journal m.place p)
happens m call_read = m
happens m call_fresh = record { store = fresh_start.store; journal = m.journal; place = fresh_start.place }
happens m (cut n others) = restarted (take n (used m)) others

abbrev pub run : Machine → List Event → Machine
run m [] = m
run m (e ∷ es) = run (happens m e) es

-- the stamps and values of a call are u64; nothing is asked of objects, pages, lengths, cuts and bytes
abbrev pub Typed : Event → Type 0
Typed (call_commit t os vs) = (t < 2 ^ 64) × Below (2 ^ 64) vs
Typed (call_gossip prev curr stamps) = (prev < 2 ^ 64) × (curr < 2 ^ 64) × Below (2 ^ 64) stamps
Typed (call_flush p) = Unit {0}
Typed call_read = Unit {0}
Typed call_fresh = Unit {0}
Typed (cut n others) = Unit {0}

abbrev pub AllTyped : List Event → Type 0
AllTyped es = All Typed es

-- P holds of every machine that a run reaches, from the fresh store with any journal
abbrev pub AfterAnyRun : (Machine → Type 0) → Type 0
AfterAnyRun P = (j : List ℕ) (es : List Event) → AllTyped es → P (run (started j) es)

-- ---- the history that bytes hold: their whole records, read off one after the other from behind the version byte
abbrev pub recorded : Step → (ℕ → List Change) → List Change
recorded end more = []
recorded short more = []
recorded (malformed offset) more = []
recorded (whole c next) more = c ∷ more next

-- each record takes bytes, so their length is fuel enough
abbrev pub history_from : ℕ → List ℕ → ℕ → List Change
history_from zero j at = []
history_from (suc n) j at = recorded (step_at j at) (λ next. history_from n j next)

unfoldable pub history_of : List ℕ → List Change
history_of j = history_from (length j) j 1

abbrev pub history : Machine → List Change
history m = history_of (used m)

-- ---- the journal of a history: the version byte and the records' encodings, one after the other
abbrev pub encodings : List Change → List ℕ
encodings [] = []
encodings (c ∷ cs) = encode c ++ encodings cs

abbrev pub journal_of : List Change → List ℕ
journal_of h = version ∷ encodings h

-- ---- the changes that a run has had accepted, in order: a call of code 0 adds its change to those before it, fresh leaves none, and
-- a cut those that the surviving bytes hold
abbrev pub added : Outcome → Change → List Change → List Change
added o c h = pick (is_done o.answer) (h ++ (c ∷ [])) h

abbrev pub accepted_by : Machine → List Change → Event → List Change
accepted_by m h (call_commit t os vs) = added (commit_call m.store m.journal m.place t os vs) (commit t (paired os vs)) h
accepted_by m h (call_gossip prev curr stamps) = added (gossip_call m.store m.journal m.place prev curr stamps) (gossip prev curr stamps) h
accepted_by m h (call_flush p) = added (flush_call m.store m.journal m.place p) (flush p) h
accepted_by m h call_read = h
accepted_by m h call_fresh = []
accepted_by m h (cut n others) = history_of (take n (used m))

abbrev pub accepted_in : Machine → List Change → List Event → List Change
accepted_in m h [] = h
accepted_in m h (e ∷ es) = accepted_in (happens m e) (accepted_by m h e) es
