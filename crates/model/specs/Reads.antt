-- Document 01, "Calls": the reads and standing. Order: 2, 3, 13, 14; a current read 2, 3; standing 2.
use Rattle.std.specs.Prelude.{ℕ, ◌*◌, ◌/◌, max, Bool, true, List, [], ◌∷◌, length, ltb, leb, eqb, ℤ, pos, ◌-ℤ◌}
use Rattle.model.specs.declared.Answer.{Answer}
use Rattle.model.specs.declared.Answer.TheVariants.{Done, Damaged, Shape, Ahead, NoSnapshot}
use Rattle.model.specs.declared.Figures.{Figures}
use Rattle.model.specs.Limits.{pages, slots, ticks, last_tick}
use Rattle.model.specs.Lists.{both, pick}
use Rattle.model.specs.Answers.{is_done, number_of}
use Rattle.model.specs.Store.{Store, page_as_of, page_now}
use Rattle.model.specs.Damage.{damaged}

-- a read's answer, and the lent buffer as it leaves it
pub record Shown : Type 0 where
  pub answer : Answer
  pub buffer : List ℕ

abbrev pub shown : Answer → List ℕ → List ℕ → Shown
shown a page buffer = record { answer = a; buffer = pick (is_done a) page buffer }

-- 3: a page out of range, "a page buffer whose length isn't 16"
abbrev pub read_shaped : ℕ → List ℕ → Bool
read_shaped p buffer = both (ltb p pages) (eqb (length buffer) slots)

-- "The largest known snapshot <= time is used": 0 where there is none, since a known snapshot of 0 is damage
abbrev pub largest : ℕ → List ℕ → ℕ
largest time [] = 0
largest time (s ∷ ss) = pick (leb s time) (max s (largest time ss)) (largest time ss)

unfoldable pub snapshot_answer : Store → Bool → ℕ → Answer
snapshot_answer st good time =
    pick (damaged st) Damaged
    (pick good
    (pick (ltb st.horizon time) (Ahead st.horizon)
    (pick (eqb (largest time st.snapshots) 0) NoSnapshot
    (Done (largest time st.snapshots))))
    Shape)

unfoldable pub read_at : Store → Bool → ℕ → ℕ → List ℕ → Shown
read_at st good time p buffer =
    let a = snapshot_answer st (both good (read_shaped p buffer)) time in shown a (page_as_of st p (number_of a)) buffer

abbrev pub snapshot_read : Store → ℕ → ℕ → List ℕ → Shown
snapshot_read st time p buffer = read_at st true time p buffer

-- "the same with time = 256 x tick; a tick is at most 2^56 - 1"
abbrev pub clock_read : Store → ℕ → ℕ → List ℕ → Shown
clock_read st tick p buffer = read_at st (leb tick last_tick) (ticks * tick) p buffer

unfoldable pub current_read : Store → ℕ → List ℕ → Shown
current_read st p buffer =
    shown (pick (damaged st) Damaged (pick (read_shaped p buffer) (Done 0) Shape)) (page_now st p) buffer

-- ---- Standing: "its five figures beside code 0, all zero otherwise"
pub record Stood : Type 0 where
  pub answer : Answer
  pub figures : Figures

-- "a stamp's tick being stamp / 256 rounded down"; "tick of L minus tick of H"
abbrev pub tick_of : ℕ → ℕ
tick_of s = s / ticks

abbrev pub lag_of : Store → ℤ
lag_of st = pos (tick_of st.last) -ℤ pos (tick_of st.horizon)

unfoldable pub standing : Store → Stood
standing st =
    pick (damaged st)
    (record { answer = Damaged; figures = record { pending = 0; past = 0; snapshots = 0; copies = 0; lag = pos 0 } })
    (record {
      answer = Done 0;
      figures = record {
        pending = length st.pending;
        past = length st.past;
        snapshots = length st.snapshots;
        copies = length st.copies;
        lag = lag_of st;
      };
    })

-- ---- Known: the horizon, the last commit and all known snapshots; 2 where damaged
pub record Knowledge : Type 0 where
  pub answer : Answer
  pub horizon : ℕ
  pub last : ℕ
  pub snapshots : List ℕ

unfoldable pub known : Store → Knowledge
known st =
    pick (damaged st)
    (record { answer = Damaged; horizon = 0; last = 0; snapshots = [] })
    (record { answer = Done 0; horizon = st.horizon; last = st.last; snapshots = st.snapshots })
