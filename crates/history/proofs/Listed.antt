-- What a snapshot read shows after a history of accepted changes, said by the store's own list of snapshots.
use Prim.Native.Nat.{ℕ, ◌≤◌, ◌<◌}
use mathlib.Core.Path.{◌≡◌}
use mathlib.Core.Bool.{true}
use mathlib.Core.List.{List}
use native.Mathlib.Omega.{arith}
use lib.ListN.{length}
use Rattle.model.specs.declared.Answer.TheVariants.{Done}
use Rattle.model.specs.Lists.{elem_b}
use Rattle.model.specs.Store.{object_at, page16}
use Rattle.model.specs.Changes.{Change}
use Rattle.model.specs.Reads.{largest, snapshot_read}
use Rattle.history.specs.History.{replay, AllAccepted, latest}
use Rattle.history.proofs.Latest.{largest_stands}
use Rattle.history.proofs.Told.{horizon_told}
use Rattle.history.proofs.Shown.{largest_newest, read_shows}

module _ (h : List Change) (g : AllAccepted h) where
  module _ (p : ℕ) (buffer : List ℕ) (b : p < 32) (n : length buffer ≡ 16) where
    -- with a known snapshot u at or before the time, the largest such is read
    pub read_largest : (time u : ℕ) → time ≤ (replay h).horizon → elem_b u (replay h).snapshots ≡ true → u ≤ time
        → snapshot_read (replay h) time p buffer
        ≡ record {
          answer = Done (largest time (replay h).snapshots);
          buffer = page16 (λ k. (latest h (object_at p k) (largest time (replay h).snapshots)).value);
        }
    read_largest time u l e m =
        let q = horizon_told h in
        read_shows h g p buffer b n time (largest time (replay h).snapshots) (omega arith) (largest_newest h g time (largest_stands h g time u e m).0)
