-- Where the bytes of the input and of a line lie in a buffer.
use Rattle.std.specs.Prelude.{ℕ, ◌≤◌}
use Rattle.terminal.specs.declared.input.Input.{Input}
use Rattle.terminal.specs.declared.input.Span.{Span}

-- the bytes not yet served lie in a buffer of n bytes, and those searched are among them
pub record Within (i : Input) (n : ℕ) : Type 0 where
  pub begun : i.start ≤ i.seen
  pub searched : i.seen ≤ i.end
  pub fits : i.end ≤ n

-- a line lies there
pub record Lies (s : Span) (n : ℕ) : Type 0 where
  pub ordered : s.from ≤ s.to
  pub fits : s.to ≤ n
