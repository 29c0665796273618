-- The reads' answers, in the model's order of the tests, each with what it leaves in the buffer.
use Prim.Native.Nat.{ℕ, ◌*◌, ◌≤◌, ◌<◌}
use mathlib.Core.Path.{◌≡◌, refl, sym}
use mathlib.Core.Bool.{Bool, true, false}
use mathlib.Core.List.{List}
use lib.ListN.{length}
use lib.Dec.{ltb}
use borrow.Author.Tests.{lt-ltb, le-ltb, le-leb, ltb-true, eqb-true, ne_eqb}
use Rattle.model.specs.declared.Answer.{Answer}
use Rattle.model.specs.declared.Answer.TheVariants.{Done, Damaged, Shape, Ahead, NoSnapshot}
use Rattle.model.specs.Answers.{is_done}
use Rattle.model.specs.Limits.{last_tick}
use Rattle.model.specs.Lists.{pick}
use Rattle.model.specs.Store.{Store, page16, object_at, current, page_as_of, page_now}
use Rattle.model.specs.Damage.{damaged}
use Rattle.model.specs.Reads.{read_shaped, largest, snapshot_answer, read_at, clock_read, current_read}
use Rattle.tables.proofs.Cases.{by_test, clash}
use Rattle.reads.specs.Read.{Read}

pub shaped_is : (p : ℕ) (buffer : List ℕ) → read_shaped p buffer ≡ true → (p < 32) × (length buffer ≡ 16)
shaped_is p buffer e =
    by_test (ltb p 32)
    (λ t. (ltb-true p 32 t, eqb-true (length buffer) 16 (rw t at e)))
    (λ t. clash (sym (rw t at e)))

-- ---- as of a time
module _ (st : Store) (good : Bool) (time p : ℕ) (buffer : List ℕ) where
  pub read_damaged : damaged st ≡ true → Read (read_at st good time p buffer) Damaged buffer
  unfolding read_at snapshot_answer
  read_damaged d = rw d (record { answered = refl; filled = refl })

  pub read_bad : damaged st ≡ false → good ≡ false → Read (read_at st good time p buffer) Shape buffer
  unfolding read_at snapshot_answer
  read_bad d g = rw (d, g) (record { answered = refl; filled = refl })

-- the snapshot that is shown, or 0 where the read is refused
abbrev pub shown_by : ℕ → List ℕ → ℕ → ℕ → List ℕ → ℕ
shown_by horizon snapshots time p buffer = pick (read_shaped p buffer) (pick (ltb horizon time) 0 (largest time snapshots)) 0

module _ (st : Store) (time p : ℕ) (buffer : List ℕ) {s : ℕ} (e : s ≡ shown_by st.horizon st.snapshots time p buffer) where
  pub shown_shaped : (s ≡ 0 → ⊥) → (p < 32) × (length buffer ≡ 16)
  shown_shaped z = by_test (read_shaped p buffer) (λ t. shaped_is p buffer t) (λ t. absurd (z (rw t at e)))

-- the answer of tables that aren't damaged
module _ (st : Store) (good : Bool) (time : ℕ) (d : damaged st ≡ false) where
  pub misshaped : good ≡ false → snapshot_answer st good time ≡ Shape
  unfolding snapshot_answer
  misshaped g = rw (d, g) refl

  module _ (g : good ≡ true) where
    pub ahead : st.horizon < time → snapshot_answer st good time ≡ Ahead st.horizon
    unfolding snapshot_answer
    ahead h = rw (d, g, lt-ltb st.horizon time h) refl

    module _ (h : time ≤ st.horizon) where
      pub unknown : largest time st.snapshots ≡ 0 → snapshot_answer st good time ≡ NoSnapshot
      unfolding snapshot_answer
      unknown z = rw (d, g, le-ltb st.horizon time h, z) refl

      pub found : (largest time st.snapshots ≡ 0 → ⊥) → snapshot_answer st good time ≡ Done (largest time st.snapshots)
      unfolding snapshot_answer
      found z = rw (d, g, le-ltb st.horizon time h, ne_eqb (largest time st.snapshots) 0 z) refl

module _ (st : Store) (time p : ℕ) (buffer : List ℕ) where
  pub read_refused : {a : Answer} → snapshot_answer st (read_shaped p buffer) time ≡ a → is_done a ≡ false → Read (read_at st true time p buffer) a buffer
  unfolding read_at
  read_refused e f = rw (e, f) (record { answered = refl; filled = refl })

  pub read_done : {s : ℕ} → snapshot_answer st (read_shaped p buffer) time ≡ Done s → {left : List ℕ} → left ≡ page_as_of st p s → Read (read_at st true time p buffer) (Done s) left
  unfolding read_at
  read_done e f = rw e (record { answered = refl; filled = f })

-- ---- at a clock tick
pub clock_in : (st : Store) (tick p : ℕ) (buffer : List ℕ) → tick ≤ last_tick
    → {a : Answer} {left : List ℕ} → Read (read_at st true (256 * tick) p buffer) a left → Read (clock_read st tick p buffer) a left
clock_in st tick p buffer h v = rw (le-leb tick last_tick h) v

-- ---- as it is now
module _ (st : Store) (p : ℕ) (buffer : List ℕ) where
  pub now_damaged : damaged st ≡ true → Read (current_read st p buffer) Damaged buffer
  unfolding current_read
  now_damaged d = rw d (record { answered = refl; filled = refl })

  module _ (d : damaged st ≡ false) where
    pub now_misshaped : read_shaped p buffer ≡ false → Read (current_read st p buffer) Shape buffer
    unfolding current_read
    now_misshaped r = rw (d, r) (record { answered = refl; filled = refl })

    pub now_done : read_shaped p buffer ≡ true → {left : List ℕ} → left ≡ page16 (λ k. (current st (object_at p k)).value) → Read (current_read st p buffer) (Done 0) left
    unfolding current_read page_now
    now_done r f = rw (d, r) (record { answered = refl; filled = f })
