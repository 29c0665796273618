-- What a read promises: its answer and the whole buffer are the model's.
use Rattle.std.specs.Prelude.{ℕ, ◌≡◌, false, List, Result, MatchResult}
use Rattle.model.specs.declared.Answer.{Answer}
use Rattle.model.specs.declared.Answer.TheVariants.{Done}
use Rattle.model.specs.Answers.{is_done}
use Rattle.model.specs.Reads.{Shown}

pub record Read (x : Shown) (answer : Answer) (buffer : List ℕ) : Type 0 where
  pub answered : answer ≡ x.answer
  pub filled : buffer ≡ x.buffer

-- the answer is that a snapshot is shown, or a refusal
abbrev pub ShownBy : Answer → Result ℕ Answer → Type 0
ShownBy a r = MatchResult r (λ s. a ≡ Done s) (λ e. (a ≡ e) × (is_done e ≡ false))
