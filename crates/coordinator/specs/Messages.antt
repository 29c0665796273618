-- The stamps of a message among the granted ones, and what is written.
use Rattle.std.specs.Prelude.{ℕ, ◌≤◌, ◌≡◌, List, length, take}
use Rattle.model.specs.Limits.{most_stamps}
use Rattle.model.specs.Coordinator.{stamps_in, curr_of}

-- the message's stamps among the granted ones, and its curr
pub record Speaks (granted : List ℕ) (prev clock : ℕ) (stamps : List ℕ) (curr : ℕ) : Type 0 where
  pub few : length stamps ≤ most_stamps
  pub chosen : stamps ≡ take most_stamps (stamps_in prev clock granted)
  pub curr_is : curr ≡ curr_of (stamps_in prev clock granted) clock
