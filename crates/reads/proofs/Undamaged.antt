-- What a store in range has: a page can be looked at where each object has one entry, and the snapshots are known.
use Prim.Native.Nat.{ℕ, ◌<◌, ◌≤◌}
use mathlib.Core.Path.{◌≡◌}
use mathlib.Core.Bool.{false}
use mathlib.Core.List.{map}
use native.Mathlib.Omega.{arith}
use lib.ListN.{length, take}
use Rattle.model.specs.Lists.{twice_b}
use Rattle.tables.specs.declared.Store as held
use Rattle.tables.specs.Rows.{pendings}
use Rattle.tables.specs.Contents.{stored, Counted}
use Rattle.tables.proofs.Counts.{up_to_take}
use Rattle.views.specs.Views.{Lookable}

module _ (st : held.Store) (c : Counted st.heads) where
  pub lookable : twice_b (map (λ e. e.object) (take st.heads.pending (pendings st.written.pending))) ≡ false → (page : ℕ) → page < 32 → Lookable st.written st.heads page
  lookable s page p = record { pending_count = c.pending_count; past_count = c.past_count; in_range = p; single = s }

pub known : (st : held.Store) → st.heads.snapshots ≤ 64 → length st.snapshots ≡ 64 → (stored st).snapshots ≡ take st.heads.snapshots st.snapshots
known st n l = up_to_take 0 st.heads.snapshots st.snapshots (omega arith)
