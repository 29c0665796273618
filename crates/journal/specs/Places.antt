-- What a method of a place leaves: the bytes written over the journal's from the place on, and the place behind them.
use Rattle.std.specs.Prelude.{ℕ, ◌+◌, ◌≡◌, List, length}
use Rattle.model.specs.Bytes.{write_at}
use Rattle.model.specs.Changes.{Change}
use Rattle.model.specs.Calls.{written, reached}

-- j and at before, j' and at' after
pub record Moved (bytes : List ℕ) (j : List ℕ) (at : ℕ) (j' : List ℕ) (at' : ℕ) : Type 0 where
  pub journal : j' ≡ write_at at bytes j
  pub place : at' ≡ at + length bytes

-- the same for a change's record, with the version byte before the journal's first
pub record Appended (c : Change) (j : List ℕ) (at : ℕ) (j' : List ℕ) (at' : ℕ) : Type 0 where
  pub journal : j' ≡ written j at c
  pub place : at' ≡ reached at c
