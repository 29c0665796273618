-- Document 02, request [1]: one coordinator and one repository, with all that was ever written from the one to the other. What is lost
-- is never picked, what is repeated is picked again, and what comes out of order is picked in any order.
use Rattle.std.specs.Prelude.{ℕ, ◌^◌, ◌<◌, ◌≤◌, ◌≡◌, true, false, List, [], ◌∷◌, ◌++◌, length, take, get_or, leb}
use Rattle.model.specs.declared.Answer.{Answer}
use Rattle.model.specs.declared.Answer.TheVariants.{Done, Nothing, Shape, Gap, NoRoom}
use Rattle.model.specs.Limits.{most_journal}
use Rattle.model.specs.Lists.{pick, kept, elem_b}
use Rattle.model.specs.Answers.{code_of, number_of, is_done}
use Rattle.model.specs.Store.{Store}
use Rattle.model.specs.Damage.{damaged}
use Rattle.model.specs.Changes.{gossip}
use Rattle.model.specs.Records.{whole, step_on}
use Rattle.model.specs.Calls.{reached, Outcome, gossip_call}
use Rattle.model.specs.Coordinator.{message_room, Coordinator, fresh_coordinator, top, coordinator_damaged, grant, stamps_in, Messaged, message}
use Rattle.model.specs.CoordinatorBytes.{coordinator_bytes, keep_coordinator, restart_coordinator}
use Rattle.model.specs.Exchange.{request_room, ask, request, request_in, serve, hear}
use Rattle.history.specs.Words.{All}
use Rattle.history.specs.Runs.{Machine, started, Event, call_commit, call_gossip, call_flush, call_read, call_fresh, cut, left, happens, run, Typed, AllTyped}
use Rattle.history.specs.Demands.{NotDamaged}
use Rattle.history.specs.States.{started_again}

pub record World : Type 0 where
  pub coordinator : Coordinator
  pub machine : Machine
  -- the bytes of every message and of every request that was written, in their order
  pub messages : List (List ℕ)
  pub requests : List (List ℕ)

abbrev pub begin : List ℕ → World
begin j = record { coordinator = fresh_coordinator; machine = started j; messages = []; requests = [] }

-- ---- what may happen
pub data Act : Type 0 where
  grants : (tick node : ℕ) → Act
  writes : (prev clock : ℕ) (buffer : List ℕ) → Act
  asks : (to : ℕ) (buffer : List ℕ) → Act
  -- the coordinator is handed the k-th request, the repository the k-th message; where there is none, no bytes, which are refused
  serves : (k : ℕ) (buffer : List ℕ) → Act
  hears : (k : ℕ) → Act
  -- a call of the repository's own, a fresh start or a cut at any byte
  does : (e : Event) → Act
  -- the coordinator is started again from its state's bytes. A call that was kept and never answered is a grant or a message like any
  -- other: nobody heard of it
  starts_again : Act

-- with code 0 the bytes at the buffer's front join what was written
abbrev pub sending : Answer → List ℕ → List (List ℕ) → List (List ℕ)
sending a buffer before = pick (is_done a) (before ++ (take (number_of a) buffer ∷ [])) before

abbrev pub replied : World → Messaged → World
replied w r = record {
  coordinator = r.coordinator;
  machine = w.machine;
  messages = sending r.answer r.buffer w.messages;
  requests = w.requests;
}

-- what the repository answers to the bytes
abbrev pub hearing : Machine → List ℕ → Outcome
hearing m bytes = hear m.store m.journal m.place bytes

-- and what to a gossip call with the fields of a message
abbrev pub gossiping : Machine → ℕ → ℕ → List ℕ → Outcome
gossiping m prev curr stamps = gossip_call m.store m.journal m.place prev curr stamps

abbrev pub with_machine : World → Machine → World
with_machine w m = record { coordinator = w.coordinator; machine = m; messages = w.messages; requests = w.requests }

abbrev pub with_coordinator : World → Coordinator → World
with_coordinator w k = record { coordinator = k; machine = w.machine; messages = w.messages; requests = w.requests }

abbrev pub acts : World → Act → World
acts w (grants tick node) = with_coordinator w (grant w.coordinator tick node).coordinator
acts w (writes prev clock buffer) = replied w (message w.coordinator prev clock buffer)
acts w (asks to buffer) =
    let r = ask w.machine.store to buffer in
    record { coordinator = w.coordinator; machine = w.machine; messages = w.messages; requests = sending r.answer r.buffer w.requests }
acts w (serves k buffer) = replied w (serve w.coordinator (get_or w.requests k []) buffer)
acts w (hears k) = with_machine w (left (hearing w.machine (get_or w.messages k [])))
acts w (does e) = with_machine w (happens w.machine e)
acts w starts_again = with_coordinator w (restart_coordinator (coordinator_bytes w.coordinator)).coordinator

abbrev pub course : World → List Act → World
course w [] = w
course w (a ∷ as₁) = course (acts w a) as₁

-- ---- stamps and values are u64; the repository "hears one fresh coordinator only", so no gossip comes from elsewhere
abbrev pub Own : Event → Type 0
Own (call_commit t os vs) = Unit {0}
Own (call_gossip prev curr stamps) = ⊥
Own (call_flush p) = Unit {0}
Own call_read = Unit {0}
Own call_fresh = Unit {0}
Own (cut n others) = Unit {0}

abbrev pub ActTyped : Act → Type 0
ActTyped (grants tick node) = Unit {0}
ActTyped (writes prev clock buffer) = (prev < 2 ^ 64) × (clock < 2 ^ 64)
ActTyped (asks to buffer) = to < 2 ^ 64
ActTyped (serves k buffer) = Unit {0}
ActTyped (hears k) = Unit {0}
ActTyped (does e) = Own e × Typed e
ActTyped starts_again = Unit {0}

-- P holds of every world that is reached, from a fresh coordinator and a fresh repository with any journal
abbrev pub InEveryWorld : (World → Type 0) → Type 0
InEveryWorld P = (j : List ℕ) (es : List Act) → All ActTyped es → P (course (begin j) es)

-- ---- what is demanded
-- what the repository answers to a message, by where its horizon stands: behind prev Gap, from curr on Nothing, and between them Done, or
-- No room in a journal that is too short
pub record Answered (m : Machine) (prev curr : ℕ) (stamps : List ℕ) (a : Answer) : Type 0 where
  pub gap : m.store.horizon < prev → a ≡ Gap m.store.horizon
  pub known : prev ≤ m.store.horizon → curr ≤ m.store.horizon → a ≡ Nothing m.place
  pub done : prev ≤ m.store.horizon → m.store.horizon < curr → reached m.place (gossip prev curr stamps) ≤ length m.journal
      → a ≡ Done (reached m.place (gossip prev curr stamps))
  pub full : prev ≤ m.store.horizon → m.store.horizon < curr → length m.journal < reached m.place (gossip prev curr stamps)
      → a ≡ NoRoom (reached m.place (gossip prev curr stamps))

-- a repository asks for what it missed: Done, from its horizon to beyond it
abbrev pub Asks : Store → ℕ → Type 0
Asks st to =
    (buffer : List ℕ) → request_room ≤ length buffer
    → ((ask st to buffer).answer ≡ Done request_room) × (st.horizon < to) × (request_in (take request_room (ask st to buffer).buffer) ≡ request st.horizon to)

pub record Message (w : World) (bytes : List ℕ) : Type 0 where
  pub prev : ℕ
  pub curr : ℕ
  -- a: it reads back as gossip with all granted stamps after prev up to curr, as of now
  pub reads : step_on bytes 0 ≡ whole (gossip prev curr (stamps_in prev curr w.coordinator.granted)) (length bytes)
  pub not_beyond : curr ≤ top w.coordinator
  -- b: it is never answered Conflict, Damaged or Snapshots full, nor Shape in a journal that 01 allows
  pub answered : length w.machine.journal ≤ most_journal
      → Answered w.machine prev curr (stamps_in prev curr w.coordinator.granted) (hearing w.machine bytes).answer
  pub overlong : most_journal < length w.machine.journal → (hearing w.machine bytes).answer ≡ Shape
  pub codes : elem_b (code_of (hearing w.machine bytes).answer) (0 ∷ 1 ∷ 3 ∷ 6 ∷ 12 ∷ []) ≡ true
  pub codes_shaped : length w.machine.journal ≤ most_journal → elem_b (code_of (hearing w.machine bytes).answer) (0 ∷ 1 ∷ 6 ∷ 12 ∷ []) ≡ true
  -- hearing it is the gossip call with its fields, so that is never answered Conflict either, nor Shape in such a journal
  pub gossips : hearing w.machine bytes ≡ gossiping w.machine prev curr (stamps_in prev curr w.coordinator.granted)
  pub gossip_codes : length w.machine.journal ≤ most_journal
      → elem_b (code_of (gossiping w.machine prev curr (stamps_in prev curr w.coordinator.granted)).answer) (0 ∷ 1 ∷ 6 ∷ 12 ∷ []) ≡ true
  -- e: where it is answered Gap, the repository, which stays as it was, can ask for what it missed
  pub asks_for : w.machine.store.horizon < prev → Asks w.machine.store curr
  pub after_gap : code_of (hearing w.machine bytes).answer ≡ 6 → Asks (hearing w.machine bytes).store curr

-- e: the reply to a request from its H, written when the k-th request is served, in every later world whose horizon is still that H
abbrev pub reply_to : World → ℕ → List ℕ → List ℕ
reply_to w k buffer = let r = serve w.coordinator (get_or w.requests k []) buffer in take (number_of r.answer) r.buffer

-- heard with one of the codes in a world whose horizon is still h, and whose journal 01 allows
abbrev pub Taken : List ℕ → ℕ → List ℕ → World → Type 0
Taken codes h bytes w =
    w.machine.store.horizon ≡ h → length w.machine.journal ≤ most_journal
    → elem_b (code_of (hearing w.machine bytes).answer) codes ≡ true

-- with 0 or 12: the gap closes
abbrev pub Closes : World → Type 0
Closes w =
    (k from to : ℕ) (buffer : List ℕ) → request_in (get_or w.requests k []) ≡ request from to → from < to → message_room ≤ length buffer
    → (es : List Act) → All ActTyped es → Taken (0 ∷ 12 ∷ []) from (reply_to w k buffer) (course (acts w (serves k buffer)) es)

-- and with 1 where nothing was asked for
abbrev pub Idles : World → Type 0
Idles w =
    (k from : ℕ) (buffer : List ℕ) → request_in (get_or w.requests k []) ≡ request from from → message_room ≤ length buffer
    → (es : List Act) → All ActTyped es → Taken (1 ∷ []) from (reply_to w k buffer) (course (acts w (serves k buffer)) es)

-- d: neither of them answers Damaged, whatever it is asked, every request that was written is served, and a coordinator that is started
-- again from its state's bytes is the same
pub record Sound (w : World) : Type 0 where
  pub coordinator : coordinator_damaged w.coordinator ≡ false
  pub store : damaged w.machine.store ≡ false
  pub grants : (tick node : ℕ) → NotDamaged (grant w.coordinator tick node).answer
  pub messages : (prev clock : ℕ) (buffer : List ℕ) → NotDamaged (message w.coordinator prev clock buffer).answer
  pub replies : (bytes buffer : List ℕ) → NotDamaged (serve w.coordinator bytes buffer).answer
  pub asks : (to : ℕ) (buffer : List ℕ) → NotDamaged (ask w.machine.store to buffer).answer
  pub served : (buffer : List ℕ) → message_room ≤ length buffer → All (λ bytes. code_of (serve w.coordinator bytes buffer).answer ≡ 0) w.requests
  pub keeps : (buffer : List ℕ) → NotDamaged (keep_coordinator w.coordinator buffer).answer
  pub restarts : restart_coordinator (coordinator_bytes w.coordinator) ≡ started_again w.coordinator

pub record Coordinated (w : World) : Type 0 where
  -- a, b
  pub messages : All (Message w) w.messages
  -- c: the known snapshots are exactly the granted stamps up to the horizon
  pub knows : w.machine.store.snapshots ≡ kept (λ s. leb s w.machine.store.horizon) w.coordinator.granted
  -- d, e
  pub sound : Sound w
  pub closes : Closes w
  pub idles : Idles w
  -- a k out of range does nothing
  pub unheard : (k : ℕ) → length w.messages ≤ k → acts w (hears k) ≡ w
  pub unserved : (k : ℕ) (buffer : List ℕ) → length w.requests ≤ k → acts w (serves k buffer) ≡ w

-- the repository is one that a run of its own calls reaches, so the base's demands hold of it
abbrev pub RunsAlone : World → Type 0
RunsAlone w = (j : List ℕ) × ((es : List Event) × (AllTyped es × (w.machine ≡ run (started j) es)))
