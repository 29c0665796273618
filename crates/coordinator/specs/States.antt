-- What the coordinator's state holds, as a coordinator of the model, and what its calls promise.
use Rattle.std.specs.Prelude.{ℕ, ◌≤◌, ◌≡◌, true, List}
use Rattle.model.specs.declared.Answer.{Answer}
use Rattle.model.specs.Lists.{rising_from}
use Rattle.model.specs.Reads.{Shown}
use Rattle.model.specs.Coordinator.{Coordinator, Granting, Messaged}
use Rattle.model.specs.CoordinatorBytes.{RestartedCoordinator}
use Rattle.tables.specs.Rows.{up_to}
use Rattle.coordinator.specs.declared.State.{State}

-- the first of the stamps, as many as the count says, and the largest curr sent. A count beyond the table shows stamps that aren't there
abbrev pub held : State → Coordinator
held state = record { granted = up_to 0 state.count state.stamps; sent = state.sent }

-- the state of a coordinator that isn't damaged
pub record Sound (state : State) : Type 0 where
  pub count_in : state.count ≤ 64
  pub rises : rising_from 0 (held state).granted ≡ true

-- a grant's promise: its answer and what is held afterwards
pub record Granted (x : Granting) (answer : Answer) (coordinator : Coordinator) : Type 0 where
  pub answered : answer ≡ x.answer
  pub holds : coordinator ≡ x.coordinator

-- a message's, served or not: every byte of the buffer too
pub record Wrote (x : Messaged) (answer : Answer) (coordinator : Coordinator) (buffer : List ℕ) : Type 0 where
  pub answered : answer ≡ x.answer
  pub holds : coordinator ≡ x.coordinator
  pub filled : buffer ≡ x.buffer

-- the state as bytes
pub record Kept (x : Shown) (answer : Answer) (buffer : List ℕ) : Type 0 where
  pub answered : answer ≡ x.answer
  pub filled : buffer ≡ x.buffer

-- the state from bytes
pub record Restarted (x : RestartedCoordinator) (answer : Answer) (coordinator : Coordinator) : Type 0 where
  pub answered : answer ≡ x.answer
  pub holds : coordinator ≡ x.coordinator
