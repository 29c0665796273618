-- What a history of accepted changes shows at its known snapshots and now.
use Prim.Native.Nat.{ℕ, ◌≤◌, ◌<◌}
use mathlib.Core.Path.{◌≡◌, ap, sym}
use mathlib.Core.Bool.{true}
use mathlib.Core.List.{List}
use native.Mathlib.Omega.{arith}
use Rattle.model.specs.Lists.{elem_b}
use Rattle.model.specs.Store.{object_at, page16, current, as_of, page_as_of, page_now}
use Rattle.model.specs.Changes.{Change}
use Rattle.model.specs.Reads.{largest}
use Rattle.history.specs.History.{replay, AllAccepted, latest}
use Rattle.history.proofs.Lists.{all_elem, page_same}
use Rattle.history.proofs.Sound.{read_true}
use Rattle.history.proofs.Kept.{replay_sound, replay_whole}
use Rattle.history.proofs.Largest.{largest_least, largest_known}

-- THE THEOREM: at each known snapshot, each object shows its latest write at or before it
pub reads_latest : (h : List Change) → AllAccepted h → (o s : ℕ) → o < 512 → elem_b s (replay h).snapshots ≡ true → as_of (replay h) o s ≡ (latest h o s).value
reads_latest h g o s b e = read_true o (λ s. latest h o s) (replay h) (replay_sound h g o b) s e

-- a page's objects
pub page_objects : (p k : ℕ) → p < 32 → k < 16 → object_at p k < 512
page_objects p k h l = omega arith

pub page_latest : (h : List Change) → AllAccepted h → (p s : ℕ) → p < 32 → elem_b s (replay h).snapshots ≡ true
    → page_as_of (replay h) p s ≡ page16 (λ k. (latest h (object_at p k) s).value)
unfolding page_as_of
page_latest h g p s b e =
    page_same (λ k. as_of (replay h) (object_at p k) s) (λ k. (latest h (object_at p k) s).value)
    (λ k i. reads_latest h g (object_at p k) s (page_objects p k b i) e)

-- with a known snapshot u at or before the time, the largest such is known
pub largest_stands : (h : List Change) → AllAccepted h → (time u : ℕ) → elem_b u (replay h).snapshots ≡ true → u ≤ time
    → (0 < largest time (replay h).snapshots) × (elem_b (largest time (replay h).snapshots) (replay h).snapshots ≡ true)
largest_stands h g time u e l =
    let known = (replay h).snapshots in
    let m = largest_least time u known e l in
    let pos = all_elem (λ x. 0 < x) u known e (replay_whole h g).positive in
    (omega arith, largest_known time known (omega arith))

-- THE SNAPSHOT READ: with a known snapshot u at or before the time, the page shown is that of the latest writes
-- at or before the largest such snapshot
pub snapshot_read_lem : (h : List Change) → AllAccepted h → (time p u : ℕ) → p < 32 → elem_b u (replay h).snapshots ≡ true → u ≤ time
    → page_as_of (replay h) p (largest time (replay h).snapshots) ≡ page16 (λ k. (latest h (object_at p k) (largest time (replay h).snapshots)).value)
snapshot_read_lem h g time p u b e l = page_latest h g p (largest time (replay h).snapshots) b (largest_stands h g time u e l).1

-- THE CURRENT READ: from the last commit on
pub current_latest : (h : List Change) → AllAccepted h → (o s : ℕ) → o < 512 → (replay h).last ≤ s → current (replay h) o ≡ latest h o s
current_latest h g o s b l = sym ((replay_sound h g o b).now s l)

pub now_latest : (h : List Change) → AllAccepted h → (p s : ℕ) → p < 32 → (replay h).last ≤ s
    → page_now (replay h) p ≡ page16 (λ k. (latest h (object_at p k) s).value)
unfolding page_now
now_latest h g p s b l =
    page_same (λ k. (current (replay h) (object_at p k)).value) (λ k. (latest h (object_at p k) s).value)
    (λ k i. ap (λ x. x.value) (current_latest h g (object_at p k) s (page_objects p k b i) l))
