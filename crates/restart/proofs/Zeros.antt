-- Heads of 0 with two cleared disks hold the fresh store.
use Prim.Native.Nat.{ℕ}
use mathlib.Core.Path.{◌≡◌}
use mathlib.Core.List.{List}
use Rattle.model.specs.Store.{fresh}
use Rattle.tables.specs.Contents.{contents}
use Rattle.restart.specs.Turns.{zeros}

pub holds_fresh : {values stamps : List ℕ} → values ≡ zeros → stamps ≡ zeros → (pending past : List (List ℕ)) (snapshots : List ℕ) (copies : List (List ℕ)) (copied : List ℕ)
    → contents values stamps pending past snapshots copies copied (record { pending = 0; past = 0; snapshots = 0; copies = 0; horizon = 0; last = 0 }) ≡ fresh
unfolding fresh zeros
holds_fresh p q pending past snapshots copies copied = rw (p, q)
