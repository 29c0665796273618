-- Known: nothing where the store is damaged, else the heads, and the snapshots within their count, with zeros behind them.
use Prim.Native.Nat.{ℕ, suc, ◌+◌, ◌-◌, ◌<◌, ◌≤◌}
use native.Mathlib.Numerals.{add-one}
use native.Mathlib.Omega.{arith}
use mathlib.Core.Path.{◌≡◌, refl, ap, sym, ◌∙◌}
use mathlib.Core.Bool.{true, false}
use mathlib.Core.List.{List, [], ◌++◌}
use lib.ListN.{length, take, get_or, set, replicate}
use lib.Seq.{take-suc, take_at, append_snoc, set_at, length-take-le}
use Rattle.model.specs.declared.Answer.TheVariants.{Done, Damaged}
use Rattle.model.specs.Store.{Store}
use Rattle.model.specs.Damage.{damaged}
use Rattle.model.specs.Reads as model
use Rattle.model.specs.Reads.{known}
use Rattle.tables.specs.declared.Store as held
use Rattle.tables.specs.Contents.{stored, Counted}
use Rattle.tables.proofs.Cases.{by_test, clash}
use Rattle.damage.proofs.Laws.{over_count, counted, damaged_over}
use Rattle.reads.specs.declared.Knowledge.{Knowledge}
use Rattle.reads.specs.Knows.{padded, Known}
use Rattle.reads.proofs.Undamaged as undamaged

-- one snapshot more
pub pad_more : (l : List ℕ) (i : ℕ) → i < 64 → length l ≡ 64 → set (padded (take i l)) i (get_or l i 0) ≡ padded (take (i + 1) l)
pad_more l i h e =
    let a : length (take i l) ≡ i = length-take-le i l (omega arith) in
    let b : length (take (suc i) l) ≡ suc i = length-take-le (suc i) l (omega arith) in
    let z : 64 - i ≡ suc (64 - suc i) = omega arith in
    let m : i < length l = omega arith in
    rw (add-one, a, b, z)
    (set_at (take i l) 0 (replicate (64 - suc i) 0) (get_or l i 0) i a
    ∙ sym (append_snoc (take i l) (get_or l i 0) (replicate (64 - suc i) 0))
    ∙ ap (λ (x : List ℕ). x ++ replicate (64 - suc i) 0) (sym (take-suc l i 0 m)))

-- what is told is the whole answer: the first of the stamps are the snapshots
pub told_whole : {x : model.Knowledge} {k : Knowledge} → Known x k
    → (x ≡ record { answer = Done 0; horizon = k.horizon; last = k.last; snapshots = take k.count k.stamps }) × (length (take k.count k.stamps) ≤ 64)
told_whole {x} {k} t =
    let e : take k.count k.stamps ≡ x.snapshots = rw (t.counted, t.listed) (take_at x.snapshots _ (length x.snapshots) refl) in
    rw (e, t.horizon_is, t.last_is, ← t.answered) (refl, t.within)

pub told_none : (st : Store) → damaged st ≡ true → known st ≡ record { answer = Damaged; horizon = 0; last = 0; snapshots = [] }
unfolding known
told_none st d = rw d refl

module _ (s : held.Store) (d : damaged (stored s) ≡ false) where
  pub counts_in : Counted s.heads
  counts_in =
      by_test (over_count s.heads)
      (λ t. clash (damaged_over s.written.disk s.written.dated s.written.pending s.written.past s.snapshots s.copies s.copied s.heads t ∙ d))
      (λ t. counted s.heads t)

  pub told_all : length s.snapshots ≡ 64
      → known (stored s) ≡ record { answer = Done 0; horizon = s.heads.horizon; last = s.heads.last; snapshots = take s.heads.snapshots s.snapshots }
  unfolding known
  told_all l =
      rw (d, undamaged.known s counts_in.snapshot_count l) refl

  pub told_padded : length s.snapshots ≡ 64 → {listed : List ℕ} → listed ≡ padded (take s.heads.snapshots s.snapshots)
      → Known (known (stored s)) (record { horizon = s.heads.horizon; last = s.heads.last; count = s.heads.snapshots; stamps = listed })
  told_padded l e =
      let n : s.heads.snapshots ≤ 64 = counts_in.snapshot_count in
      let m : length (take s.heads.snapshots s.snapshots) ≡ s.heads.snapshots = length-take-le s.heads.snapshots s.snapshots (omega arith) in
      rw (told_all l)
      (record { answered = refl; horizon_is = refl; last_is = refl; counted = sym m; listed = e; within = omega arith })
