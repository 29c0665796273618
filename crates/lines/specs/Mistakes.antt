-- What is wrong with a line: a fault, and the column where it stands.
use Rattle.std.specs.Prelude.{ℕ, Result, Err}
use Rattle.lines.specs.declared.Fault.{Fault}
use Rattle.lines.specs.declared.Mistake.{Mistake}

abbrev pub wrong : {A : Type 0} → Fault → ℕ → Result A Mistake
wrong fault column = Err (record { fault = fault; column = column })
