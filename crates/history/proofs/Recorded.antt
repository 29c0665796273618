-- Demand 2: each change that is done appends exactly its encoding, and the journal is that of the history.
use Prim.Native.Nat.{ℕ, zero, suc, ◌^◌, ◌<◌}
use mathlib.Core.Path.{◌≡◌, refl, ap, sym, ◌∙◌}
use mathlib.Core.Bool.{Bool, true}
use mathlib.Core.List.{List, [], ◌∷◌, ◌++◌, append-nil}
use native.Mathlib.Omega.{arith}
use lib.ListN.{take}
use Rattle.model.specs.Changes.{Change, commit, gossip, flush, paired}
use Rattle.model.specs.Records.{encode}
use Rattle.model.specs.Calls.{reached, change}
use Rattle.model.specs.Restart.{fresh_start}
use Rattle.history.specs.Words.{Words}
use Rattle.history.specs.Runs.{Machine, started, used, Event, call_fresh, cut, happens, run, AllTyped, AfterAnyRun, history_of, history, journal_of, accepted_in}
use Rattle.history.specs.Demands.{opened, Recorded, DemandTwo}
use Rattle.history.proofs.Laws.{by_le}
use Rattle.history.proofs.Encoding.{paired_below, written_else}
use Rattle.history.proofs.Journal.{journal_more}
use Rattle.history.proofs.Granted.{change_cases, reached_more}
use Rattle.history.proofs.Runs.{Faithful, fresh_faithful, grown, nothing_used, surviving, cut_faithful, history_is, history_accepted, faithful}

opened_more : (place : ℕ) (j : List ℕ) (h : List Change) (c : Change) → (0 < place → take place j ≡ journal_of h) → (place ≡ 0 → h ≡ [])
    → journal_of (h ++ (c ∷ [])) ≡ opened (take place j) ++ encode c
opened_more zero j h c f g = rw (g refl, append-nil)
opened_more (suc n) j h c f g = journal_more h c ∙ sym (ap (λ l. opened l ++ encode c) (f (omega arith)))

module _ (m : Machine) (f : Faithful m (history m)) where
  -- ---- a change
  recorded_change : (good : Bool) (c : Change) → Words c → Recorded m (change m.store m.journal m.place good c) c
  unfolding reached
  recorded_change good c w =
      change_cases m.store m.journal m.place c (λ o. Recorded m o c) good
      (λ g.
      let k = grown m (history m) c _ f w g in
      record {
        number = λ e. refl;
        appends = λ e. record {
          joins = history_is _ _ k;
          encoded = k.begun (omega (arith, reached_more m.place c)) ∙ opened_more m.place m.journal (history m) c f.begun f.unbegun;
          behind = (written_else m.journal m.place c g.room).behind;
        };
        refuses = λ n. absurd (n refl);
      })
      (λ n. record { number = λ e. absurd (n e); appends = λ e. absurd (n e); refuses = λ _. refl })

  -- ---- a cut
  cut_part : (n : ℕ) → (lost : List Change) × (history m ≡ history_of (take n (used m)) ++ lost)
  unfolding history_of
  cut_part zero = (history m, refl)
  cut_part (suc n) =
      by_le m.place 0
      (λ l. ([], rw (nothing_used m (history m) f l)))
      (λ l. let s = surviving m (history m) f l n in (s.lost, s.parts ∙ ap (λ k. k ++ s.lost) (sym s.read_off)))

-- DEMAND 2
pub demand_two : AfterAnyRun DemandTwo
unfolding fresh_start
demand_two j es y =
    let m = run (started j) es in
    let f = faithful j es y in
    record {
      commits = λ t os vs a b. recorded_change m f _ (commit t (paired os vs)) (a, paired_below (2 ^ 64) os vs b);
      gossips = λ prev curr stamps a b c. recorded_change m f true (gossip prev curr stamps) (a, b, c);
      flushes = λ p. recorded_change m f true (flush p) tt;
      empty_is = λ e. (nothing_used m (history m) f (omega arith), f.unbegun e);
      journal_is = f.begun;
      cut_is = λ n others. history_is (happens m (cut n others)) _ (cut_faithful m (history m) f n others);
      cut_begins = cut_part m f;
      fresh_is = history_is (happens m call_fresh) [] (fresh_faithful m.journal);
    }

-- THE JOURNAL AFTER ANY RUN: the version byte, and the encodings of the accepted changes in order
pub journal_accepted : (j : List ℕ) (es : List Event) → AllTyped es → 0 < (run (started j) es).place
    → used (run (started j) es) ≡ journal_of (accepted_in (started j) [] es)
journal_accepted j es y l = (faithful j es y).begun l ∙ ap journal_of (history_accepted j es y)
