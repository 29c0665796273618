-- Demand 3: after any run the reads show the history, no flush alters them, Damaged is never answered, and a restart rebuilds it all.
use Prim.Native.Nat.{ℕ, zero, suc, ◌<◌}
use mathlib.Core.Path.{◌≡◌, refl, ap, sym, ◌∙◌, subst}
use mathlib.Core.Bool.{Bool, true, false}
use mathlib.Core.List.{List}
use native.Mathlib.Omega.{arith}
use lib.ListN.{length, take}
use lib.Dec.{ltb, leb, eqb}
use Rattle.model.specs.Limits.{last_tick}
use Rattle.model.specs.Lists.{both}
use Rattle.model.specs.Store.{Store}
use Rattle.model.specs.Damage.{damaged}
use Rattle.model.specs.Changes.{Change, flush, after}
use Rattle.model.specs.Judgement.{judge}
use Rattle.model.specs.Reads.{read_shaped, largest, snapshot_answer, read_at, current_read, standing, known}
use Rattle.model.specs.Calls.{change}
use Rattle.model.specs.Restart.{resumed, restart}
use Rattle.history.specs.History.{replay, AllAccepted}
use Rattle.history.specs.Runs.{Machine, started, used, call_flush, happens, run, AfterAnyRun, history_of, history, journal_of}
use Rattle.history.specs.Demands.{NotDamaged, Reads, ReadAlike, rebuilt, DemandThree}
use Rattle.history.proofs.Laws.{by_le, clash, pick_all}
use Rattle.history.proofs.Kept.{never_damaged}
use Rattle.history.proofs.Answered.{clock_read_lem}
use Rattle.history.proofs.Shown.{newest_stands, read_ahead, read_none, read_shows, read_done, current_shows}
use Rattle.history.proofs.Unaltered.{same_read, same_clock, same_current_read}
use Rattle.history.proofs.Restarts.{restart_nothing, restart_whole}
use Rattle.history.proofs.Granted.{damaged_alone, change_cases}
use Rattle.history.proofs.Runs.{Faithful, nothing_used, size_used, surviving, faithful}

-- ---- a store that is not Damaged never answers so
module _ (st : Store) (d : damaged st ≡ false) where
  change_sound : (j : List ℕ) (used : ℕ) (good : Bool) (c : Change) → NotDamaged (change st j used good c).answer
  change_sound j used good c =
      change_cases st j used c (λ o. NotDamaged o.answer) good (λ g e. absurd (omega arith))
      (λ n e. clash (damaged st) (damaged_alone st j used c good e) d)

  read_sound : (good : Bool) (time p : ℕ) (buffer : List ℕ) → NotDamaged (read_at st good time p buffer).answer
  unfolding read_at snapshot_answer
  read_sound good time p buffer =
      rw d
      (pick_all NotDamaged (both good (read_shaped p buffer))
      (λ _. pick_all NotDamaged (ltb st.horizon time) (λ _ e. absurd (omega arith))
      (λ _. pick_all NotDamaged (eqb (largest time st.snapshots) 0) (λ _ e. absurd (omega arith)) (λ _ e. absurd (omega arith))))
      (λ _ e. absurd (omega arith)))

  current_sound : (p : ℕ) (buffer : List ℕ) → NotDamaged (current_read st p buffer).answer
  unfolding current_read
  current_sound p buffer = rw d (pick_all NotDamaged (read_shaped p buffer) (λ _ e. absurd (omega arith)) (λ _ e. absurd (omega arith)))

  standing_sound : NotDamaged (standing st).answer
  unfolding standing
  standing_sound = rw d (λ e. absurd (omega arith))

  known_sound : NotDamaged (known st).answer
  unfolding known
  known_sound = rw d (λ e. absurd (omega arith))

-- ---- what is read after an accepted history
shows_history : (h : List Change) → AllAccepted h → (p : ℕ) (buffer : List ℕ) → p < 32 → length buffer ≡ 16 → Reads h (replay h) p buffer
shows_history h a p buffer b n = record {
  ahead = read_ahead h a p buffer b n;
  none = read_none h a p buffer b n;
  known = λ time u t l. newest_stands h a time u t l;
  shows = read_shows h a p buffer b n;
  only = read_done h a p buffer b n;
  clock = λ tick l. clock_read_lem (replay h) tick p buffer l;
  now = current_shows h a p buffer b n;
}

module _ (m : Machine) (f : Faithful m (history m)) where
  never : damaged m.store ≡ false
  never = ap damaged f.stored ∙ never_damaged (history m) f.accepted

  unaltered : (q : ℕ) → ReadAlike m.store (happens m (call_flush q)).store
  unaltered q =
      let h = history m in
      let e = f.stored in
      change_cases m.store m.journal m.place (flush q) (λ o. ReadAlike m.store o.store) true
      (λ g.
      let j = ap (λ st. judge st (flush q)) (sym e) ∙ g.judged in
      subst (λ st. ReadAlike st (after st (flush q))) (sym e)
      (record {
        snapshots = same_read h f.accepted q g.formed j;
        clocks = same_clock h f.accepted q g.formed j;
        currents = same_current_read h f.accepted q g.formed j;
      }))
      (λ n. record { snapshots = λ time p buffer. refl; clocks = λ tick p buffer. refl; currents = λ p buffer. refl })

  restarts_cut : (n : ℕ) → 0 < n → 0 < m.place → restart (take n (used m)) ≡ rebuilt (history_of (take n (used m)))
  restarts_cut zero z l = absurd (omega arith)
  restarts_cut (suc n) z l = let s = surviving m (history m) f l n in rw s.read_off s.restarted

  restarts_same : restart (used m) ≡ resumed m.store m.place
  unfolding replay
  restarts_same =
      by_le m.place 0
      (λ l.
      let e : m.place ≡ 0 = omega arith in
      let st = f.stored ∙ ap replay (f.unbegun e) in
      ap restart (nothing_used m (history m) f l) ∙ restart_nothing ∙ (λ i. resumed (sym st i) (sym e i)))
      (λ l.
      let b = f.begun l in
      let n : length (journal_of (history m)) ≡ m.place = sym (ap length b) ∙ size_used m (history m) f in
      ap restart b ∙ restart_whole (history m) f.accepted f.words (omega (arith, f.most)) ∙ (λ i. resumed (sym f.stored i) (n i)))

-- DEMAND 3
pub demand_three : AfterAnyRun DemandThree
demand_three j es y =
    let m = run (started j) es in
    let f = faithful j es y in
    let d = never m f in
    record {
      accepted = f.accepted;
      store_is = f.stored;
      reads = λ p buffer b n. subst (λ st. Reads (history m) st p buffer) (sym f.stored) (shows_history (history m) f.accepted p buffer b n);
      undamaged = record {
        store = d;
        commits = λ t os vs. change_sound m.store d m.journal m.place _ _;
        gossips = λ prev curr stamps. change_sound m.store d m.journal m.place _ _;
        flushes = λ p. change_sound m.store d m.journal m.place _ _;
        snapshots = λ time p buffer. read_sound m.store d true time p buffer;
        clocks = λ tick p buffer. read_sound m.store d (leb tick last_tick) _ p buffer;
        currents = λ p buffer. current_sound m.store d p buffer;
        stands = standing_sound m.store d;
        knows = known_sound m.store d;
      };
      flush_alters_nothing = unaltered m f;
      restart_cut = restarts_cut m f;
      restart_none = restart_nothing;
      restart_same = restarts_same m f;
    }
