-- What standing and known promise: every part of the model's, the snapshots with zeros behind them up to the table's end.
use Rattle.std.specs.Prelude.{ℕ, ◌-◌, ◌≡◌, ◌≤◌, List, [], ◌++◌, length, replicate, pos, Option, MatchOption}
use Rattle.model.specs.declared.Answer.TheVariants.{Done, Damaged}
use Rattle.model.specs.declared.Figures.{Figures}
use Rattle.model.specs.Limits.{most_snapshots}
use Rattle.model.specs.Reads as model
use Rattle.reads.specs.declared.Knowledge.{Knowledge}

abbrev pub padded : List ℕ → List ℕ
padded stamps = stamps ++ replicate (most_snapshots - length stamps) 0

-- the figures are told beside Done; Damaged tells zeros
abbrev pub Stands : model.Stood → Option Figures → Type 0
Stands x r =
    MatchOption r
    (x ≡ record { answer = Damaged; figures = record { pending = 0; past = 0; snapshots = 0; copies = 0; lag = pos 0 } })
    (λ f. x ≡ record { answer = Done 0; figures = f })

-- beside Done every part is told, and of snapshots there are no more than rows
pub record Known (x : model.Knowledge) (k : Knowledge) : Type 0 where
  pub answered : x.answer ≡ Done 0
  pub horizon_is : k.horizon ≡ x.horizon
  pub last_is : k.last ≡ x.last
  pub counted : k.count ≡ length x.snapshots
  pub listed : k.stamps ≡ padded x.snapshots
  pub within : length x.snapshots ≤ most_snapshots

-- Damaged tells none
abbrev pub Knows : model.Knowledge → Option Knowledge → Type 0
Knows x r =
    MatchOption r
    (x ≡ record { answer = Damaged; horizon = 0; last = 0; snapshots = [] })
    (λ k. Known x k)
