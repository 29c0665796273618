-- What the coordinator's faces promise: code and number, what its words hold afterwards, and every byte of the buffer.
use Rattle.std.specs.Prelude.{ℕ, ◌≡◌, List}
use Rattle.model.specs.declared.Answer.TheVariants.{Done}
use Rattle.model.specs.Answers.{code_of, number_of}
use Rattle.model.specs.Coordinator.{Coordinator, fresh_coordinator, Granting, Messaged}
use Rattle.model.specs.CoordinatorBytes.{RestartedCoordinator}
use Rattle.repository.specs.declared.replies.Reply.{Reply}

-- a grant: code, number, what is held
pub record Granted (x : Granting) (r : Reply) (state : Coordinator) : Type 0 where
  pub coded : r.code ≡ code_of x.answer
  pub numbered : r.number ≡ number_of x.answer
  pub holds : state ≡ x.coordinator

-- a message, served or not: the whole buffer too
pub record Sent (x : Messaged) (r : Reply) (state : Coordinator) (buffer : List ℕ) : Type 0 where
  pub coded : r.code ≡ code_of x.answer
  pub numbered : r.number ≡ number_of x.answer
  pub holds : state ≡ x.coordinator
  pub filled : buffer ≡ x.buffer

-- fresh, and a restart from bytes: code, number, what is held
abbrev pub begun : RestartedCoordinator
begun = record { answer = Done 0; coordinator = fresh_coordinator }

pub record Resumed (x : RestartedCoordinator) (r : Reply) (state : Coordinator) : Type 0 where
  pub coded : r.code ≡ code_of x.answer
  pub numbered : r.number ≡ number_of x.answer
  pub holds : state ≡ x.coordinator
