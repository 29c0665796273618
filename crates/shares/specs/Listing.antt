-- A list in fixed room: its items, and what lies behind them.
use Rattle.std.specs.Prelude.{List}

pub record Lists (T : Type 0) : Type 0 where
  pub items : List T
  pub rest : List T
