-- What is read of a state's bytes: how many stamps they have, the state that they hold, or the answer that refuses them.
use Rattle.std.specs.Prelude.{ℕ, ◌≤◌, ◌≡◌, List, length, get_or}
use Rattle.model.specs.declared.Answer.{Answer}
use Rattle.model.specs.declared.Answer.TheVariants.{Done}
use Rattle.model.specs.Answers.{code_of}
use Rattle.model.specs.Calls.{version}
use Rattle.model.specs.Coordinator.{most_granted}
use Rattle.model.specs.CoordinatorBytes.{size_of, count_in, coordinator_in, restart_answer}
use Rattle.coordinator.specs.declared.State.{State}
use Rattle.coordinator.specs.States.{held}

-- the fields before the stamps are good, and tell n of them
pub record Sized (bytes : List ℕ) (n : ℕ) : Type 0 where
  pub versioned : get_or bytes 0 0 ≡ version
  pub told : n ≡ count_in bytes
  pub few : n ≤ most_granted
  pub fits : length bytes ≡ size_of n

-- all are good: so many bytes, and what they hold
pub record Taken (bytes : List ℕ) (state : State) (size : ℕ) : Type 0 where
  pub answered : Done size ≡ restart_answer bytes
  pub holds : held state ≡ coordinator_in bytes

-- a field is bad
pub record Bad (bytes : List ℕ) (answer : Answer) : Type 0 where
  pub answered : answer ≡ restart_answer bytes
  pub refused : code_of answer ≡ 0 → ⊥
