-- After any run the used bytes are nothing, or the journal of the history read off them, and the store is the one that this history leaves.
use Prim.Native.Nat.{ℕ, zero, suc, ◌^◌, ◌<◌, ◌≤◌}
use mathlib.Core.Path.{◌≡◌, refl, ap, sym, ◌∙◌, subst}
use mathlib.Core.Bool.{Bool, true}
use mathlib.Core.List.{List, [], ◌∷◌, ◌++◌, append-nil}
use native.Mathlib.Omega.{arith}
use lib.ListN.{length, take, length-append, length-take}
use lib.Seq.{length-take-le, take_at, take-append_seam}
use borrow.Author.Tests.{ne_eqb}
use Rattle.model.specs.declared.Answer.{Answer}
use Rattle.model.specs.Limits.{most_journal}
use Rattle.model.specs.Store.{fresh}
use Rattle.model.specs.Changes.{Change, commit, gossip, flush, paired, after}
use Rattle.model.specs.Judgement.{judge}
use Rattle.model.specs.Records.{encode}
use Rattle.model.specs.Calls.{appended, written, reached, change}
use Rattle.model.specs.Restart.{resumed, fresh_start, restart}
use Rattle.history.specs.Words.{All, Words}
use Rattle.history.specs.History.{replay, AllAccepted}
use Rattle.history.specs.Runs.{Machine, started, used, Event, call_commit, call_gossip, call_flush, call_read, call_fresh, cut, left, restarted, happens, run, Typed, AllTyped, history_of, history, journal_of, added, accepted_by, accepted_in}
use Rattle.history.proofs.Laws.{by_le}
use Rattle.history.proofs.Lists.{all_append}
use Rattle.history.proofs.Encoding.{paired_below, written_else}
use Rattle.history.proofs.Journal.{journal_more, history_whole}
use Rattle.history.proofs.Parts.{accepted_more, replay_parts}
use Rattle.history.proofs.Restarts.{accepted_fit, restart_nothing, Survives, survives}
use Rattle.history.proofs.Granted.{Granted, change_cases, used_after, reached_more}

-- the store and the used bytes of the machine are those of the history h
pub record Faithful (m : Machine) (h : List Change) : Type 0 where
  pub accepted : AllAccepted h
  pub words : All Words h
  pub stored : m.store ≡ replay h
  pub begun : 0 < m.place → used m ≡ journal_of h
  pub unbegun : m.place ≡ 0 → h ≡ []
  pub within : m.place ≤ length m.journal
  pub most : m.place ≤ most_journal

pub fresh_faithful : (j : List ℕ) → Faithful (started j) []
unfolding replay
fresh_faithful j = record {
  accepted = tt;
  words = tt;
  stored = refl;
  begun = λ l. absurd (omega arith);
  unbegun = λ e. refl;
  within = omega arith;
  most = omega arith;
}

-- ---- an accepted change
joined : (place : ℕ) (j : List ℕ) (h : List Change) (c : Change) → (0 < place → take place j ≡ journal_of h) → (place ≡ 0 → h ≡ [])
    → take place j ++ appended place c ≡ journal_of (h ++ (c ∷ []))
joined zero j h c f g = rw (g refl, append-nil)
joined (suc n) j h c f g =
    rw (ne_eqb (suc n) 0 (λ e. omega arith)) (ap (λ l. l ++ encode c) (f (omega arith)) ∙ sym (journal_more h c))

pub grown : (m : Machine) (h : List Change) (c : Change) (a : Answer) → Faithful m h → Words c → Granted m.store m.journal m.place c a
    → Faithful (record { store = after m.store c; journal = written m.journal m.place c; place = reached m.place c }) (h ++ (c ∷ []))
unfolding replay
grown m h c a f w g =
    let o = written_else m.journal m.place c g.room in
    record {
      accepted = accepted_more h c fresh f.accepted g.formed (ap (λ st. judge st c) (sym f.stored) ∙ g.judged);
      words = all_append Words h (c ∷ []) f.words (w, tt);
      stored = ap (λ st. after st c) f.stored ∙ sym (replay_parts h (c ∷ []) fresh);
      begun = λ _.
          used_after m.store m.journal m.place c g.room ∙ joined m.place m.journal h c f.begun f.unbegun;
      unbegun = λ e. absurd (omega (arith, reached_more m.place c));
      within = omega (arith, o.same_length, g.room);
      most = omega (arith, g.room, g.most);
    }

pub call_faithful : (m : Machine) (h : List Change) (good : Bool) (c : Change) → Faithful m h → Words c
    → Faithful (left (change m.store m.journal m.place good c)) (added (change m.store m.journal m.place good c) c h)
call_faithful m h good c f w =
    change_cases m.store m.journal m.place c (λ o. Faithful (left o) (added o c h)) good (λ g. grown m h c _ f w g)
    (λ n. rw (ne_eqb _ 0 n) f)

-- ---- a restart
module _ (bytes others : List ℕ) (k : List Change) (at : ℕ) (e : restart bytes ≡ resumed (replay k) at) (r : history_of bytes ≡ k) where
  resumed_faithful : AllAccepted k → All Words k → (0 < at → take at bytes ≡ journal_of k) → (at ≡ 0 → k ≡ []) → at ≤ length bytes → at ≤ most_journal
      → Faithful (restarted bytes others) (history_of bytes)
  resumed_faithful a w f g l n =
      let t = length-take-le at bytes l in
      rw (e, r)
      (record {
        accepted = a;
        words = w;
        stored = refl;
        begun = λ z. take_at (take at bytes) others at t ∙ f z;
        unbegun = g;
        within = omega (arith, length-append (take at bytes) others, t);
        most = n;
      })

cut_nothing : (bytes others : List ℕ) → bytes ≡ []
    → Faithful (restarted bytes others) (history_of bytes)
unfolding replay history_of
cut_nothing bytes others e =
    resumed_faithful bytes others [] 0 (ap restart e ∙ restart_nothing) (ap history_of e) tt tt (λ l. absurd (omega arith)) (λ l. refl) (omega arith)
    (omega arith)

module _ (m : Machine) (h : List Change) (f : Faithful m h) where
  pub nothing_used : m.place ≤ 0 → used m ≡ []
  nothing_used l = let e : m.place ≡ 0 = omega arith in ap (λ x. take x m.journal) e

  pub size_used : length (used m) ≡ m.place
  size_used = length-take-le m.place m.journal f.within

  -- what survives of the history in the first bytes
  pub surviving : 0 < m.place → (n : ℕ) → Survives h (take (suc n) (used m))
  surviving l n =
      let b = f.begun l in
      subst (λ (j : List ℕ). Survives h (take (suc n) j)) (sym b)
      (survives h f.accepted f.words (omega (arith, ap length b, size_used, f.most)) n)

  pub cut_faithful : (n : ℕ) (others : List ℕ) → Faithful (happens m (cut n others)) (history_of (take n (used m)))
  cut_faithful zero others = cut_nothing (take 0 (used m)) others refl
  cut_faithful (suc n) others =
      by_le m.place 0
      (λ l. cut_nothing (take (suc n) (used m)) others (ap (take (suc n)) (nothing_used l)))
      (λ l.
      let s = surviving l n in
      let at = length (journal_of s.kept) in
      let here : at ≤ length (take (suc n) (used m)) = omega (arith, ap length s.bytes_kept, length-append (journal_of s.kept) s.torn) in
      resumed_faithful (take (suc n) (used m)) others s.kept at s.restarted s.read_off s.accepted s.words
      (λ _. ap (take at) s.bytes_kept ∙ take-append_seam (journal_of s.kept) s.torn) (λ z. absurd (omega arith)) here
      (omega (arith, length-take (suc n) (used m), size_used, f.most)))

-- ---- any event, any run
pub event_faithful : (m : Machine) (h : List Change) (e : Event) → Faithful m h → Typed e → Faithful (happens m e) (accepted_by m h e)
unfolding fresh_start
event_faithful m h (call_commit t os vs) f y = call_faithful m h _ (commit t (paired os vs)) f (y.0, paired_below (2 ^ 64) os vs y.1)
event_faithful m h (call_gossip prev curr stamps) f y = call_faithful m h true (gossip prev curr stamps) f y
event_faithful m h (call_flush p) f y = call_faithful m h true (flush p) f tt
event_faithful m h call_read f y = f
event_faithful m h call_fresh f y = fresh_faithful m.journal
event_faithful m h (cut n others) f y = cut_faithful m h f n others

run_faithful : (es : List Event) (m : Machine) (h : List Change) → Faithful m h → AllTyped es → Faithful (run m es) (accepted_in m h es)
run_faithful [] m h f y = f
run_faithful (e ∷ es) m h f y = run_faithful es (happens m e) (accepted_by m h e) (event_faithful m h e f y.0) y.1

-- ---- the history is the one that is read off
pub history_is : (m : Machine) (h : List Change) → Faithful m h → history m ≡ h
unfolding history_of
history_is m h f =
    by_le m.place 0
    (λ l. let e : m.place ≡ 0 = omega arith in ap (λ x. history_of (take x m.journal)) e ∙ sym (f.unbegun e))
    (λ l. ap history_of (f.begun l) ∙ history_whole h (accepted_fit h fresh f.accepted f.words))

-- THE HISTORY AFTER ANY RUN is the changes that it has had accepted
pub history_accepted : (j : List ℕ) (es : List Event) → AllTyped es → history (run (started j) es) ≡ accepted_in (started j) [] es
history_accepted j es y = history_is (run (started j) es) (accepted_in (started j) [] es) (run_faithful es (started j) [] (fresh_faithful j) y)

-- WHAT EVERY RUN KEEPS
pub faithful : (j : List ℕ) (es : List Event) → AllTyped es → Faithful (run (started j) es) (history (run (started j) es))
faithful j es y =
    subst (Faithful (run (started j) es)) (sym (history_accepted j es y)) (run_faithful es (started j) [] (fresh_faithful j) y)
