-- What the reads answer on any store that is not Damaged, and when two stores answer alike.
use Prim.Native.Nat.{ℕ, ◌*◌, ◌≤◌, ◌<◌}
use mathlib.Core.Path.{◌≡◌, ap, sym, ◌∙◌}
use mathlib.Core.Bool.{Bool, true, false}
use mathlib.Core.List.{List}
use native.Mathlib.Omega.{arith}
use lib.Dec.{ltb}
use borrow.Author.Tests.{ltb-true, lt-ltb, le-ltb, le-leb, eq-eqb, ne_eqb}
use Rattle.model.specs.declared.Answer.TheVariants.{Done, Shape, Ahead, NoSnapshot}
use Rattle.model.specs.Lists.{both}
use Rattle.model.specs.Limits.{last_tick}
use Rattle.model.specs.Store.{Store, page_as_of, page_now}
use Rattle.model.specs.Damage.{damaged}
use Rattle.model.specs.Reads.{read_shaped, largest, snapshot_answer, read_at, snapshot_read, clock_read, current_read}
use Rattle.history.proofs.Laws.{by_test, by_le, both_left, both_right}

-- a clock read is a snapshot read
pub clock_read_lem : (st : Store) (tick p : ℕ) (buffer : List ℕ) → tick ≤ last_tick → clock_read st tick p buffer ≡ snapshot_read st (256 * tick) p buffer
clock_read_lem st tick p buffer l = rw (le-leb tick last_tick l)

module _ (st : Store) (d : damaged st ≡ false) (good : Bool) (p : ℕ) (buffer : List ℕ) where
  pub answer_misshaped : (time : ℕ) → both good (read_shaped p buffer) ≡ false → read_at st good time p buffer ≡ record { answer = Shape; buffer = buffer }
  unfolding read_at snapshot_answer
  answer_misshaped time e = rw (d, e)

  module _ (r : both good (read_shaped p buffer) ≡ true) where
    pub answer_ahead : (time : ℕ) → st.horizon < time → read_at st good time p buffer ≡ record { answer = Ahead st.horizon; buffer = buffer }
    unfolding read_at snapshot_answer
    answer_ahead time l = rw (d, r, lt-ltb st.horizon time l)

    pub answer_none : (time : ℕ) → time ≤ st.horizon → largest time st.snapshots ≡ 0
        → read_at st good time p buffer ≡ record { answer = NoSnapshot; buffer = buffer }
    unfolding read_at snapshot_answer
    answer_none time l z = rw (d, r, le-ltb st.horizon time l, eq-eqb (largest time st.snapshots) 0 z)

    pub answer_done : (time : ℕ) → time ≤ st.horizon → 0 < largest time st.snapshots
        → read_at st good time p buffer ≡ record { answer = Done (largest time st.snapshots); buffer = page_as_of st p (largest time st.snapshots) }
    unfolding read_at snapshot_answer
    answer_done time l z =
        rw (d, r, le-ltb st.horizon time l, ne_eqb (largest time st.snapshots) 0 (λ e. omega arith))

module _ (st : Store) (d : damaged st ≡ false) (p : ℕ) (buffer : List ℕ) where
  pub now_misshaped : read_shaped p buffer ≡ false → current_read st p buffer ≡ record { answer = Shape; buffer = buffer }
  unfolding current_read
  now_misshaped e = rw (d, e)

  pub now_done : read_shaped p buffer ≡ true → current_read st p buffer ≡ record { answer = Done 0; buffer = page_now st p }
  unfolding current_read
  now_done e = rw (d, e)

-- ---- two stores that answer alike at a time
pub record Alike (time : ℕ) (st u : Store) : Type 0 where
  pub undamaged_before : damaged st ≡ false
  pub undamaged_after : damaged u ≡ false
  pub beyond : st.horizon < time → u.horizon ≡ st.horizon
  pub within : time ≤ st.horizon → time ≤ u.horizon
  pub newest : largest time u.snapshots ≡ largest time st.snapshots
  pub pages : (p : ℕ) → p < 32 → 0 < largest time st.snapshots
      → page_as_of u p (largest time u.snapshots) ≡ page_as_of st p (largest time st.snapshots)

pub alike_reads : (time : ℕ) (st u : Store) → Alike time st u → (good : Bool) (p : ℕ) (buffer : List ℕ)
    → read_at u good time p buffer ≡ read_at st good time p buffer
alike_reads time st u a good p buffer =
    let d = a.undamaged_before in
    let e = a.undamaged_after in
    let s = largest time st.snapshots in
    let q = a.newest in
    by_test (both good (read_shaped p buffer))
    (λ r.
    by_le time st.horizon
    (λ l.
    by_le s 0
    (λ z. answer_none u e good p buffer r time (a.within l) (omega arith) ∙ sym (answer_none st d good p buffer r time l (omega arith)))
    (λ z.
    let b = ltb-true p 32 (both_left (ltb p 32) _ (both_right good (read_shaped p buffer) r)) in
    answer_done u e good p buffer r time (a.within l) (omega arith)
    ∙ ap (λ x. record { answer = Done x; buffer = page_as_of u p (largest time u.snapshots) }) q
    ∙ ap (λ x. record { answer = Done s; buffer = x }) (a.pages p b z)
    ∙ sym (answer_done st d good p buffer r time l z)))
    (λ l.
    let h = a.beyond l in
    answer_ahead u e good p buffer r time (omega arith) ∙ ap (λ x. record { answer = Ahead x; buffer = buffer }) h
    ∙ sym (answer_ahead st d good p buffer r time l)))
    (λ r. answer_misshaped u e good p buffer time r ∙ sym (answer_misshaped st d good p buffer time r))
