-- Each stand-in of document 01 breaks the promise of its call, on a store of the worked night or at a commit of two writes.
use Prim.Native.Nat.{ℕ}
use mathlib.Core.Path.{◌≡◌, refl, ap, sym, ◌∙◌}
use mathlib.Core.List.{List, [], ◌∷◌}
use native.Mathlib.Omega.{arith}
use native.Mathlib.Nat.{le_refl}
use lib.ListN.{length, take, get_or, replicate}
use lib.Dec.{lit<}
use Rattle.model.specs.Answers.{code_of}
use Rattle.model.specs.Store.{Store, fresh, page16, some_slot, page_as_of, page_now}
use Rattle.model.specs.Damage.{overfull, misnumbered, doubled, misordered, damaged}
use Rattle.model.specs.Changes.{paired, write_one, last_at, commit_store, gossip_store, copies_after, flush_store}
use Rattle.model.specs.Judgement.{objects_shaped, stamps_shaped, judge_commit, against, judge_gossip, judge_flush}
use Rattle.model.specs.Reads.{snapshot_answer, read_at, snapshot_read, current_read, Stood, standing}
use Rattle.model.specs.Records.{encode, decode, step_on}
use Rattle.model.specs.Calls.{written, reached, answer_to, Outcome, change, commit_call, flush_call}
use Rattle.history.specs.Runs.{Machine, started, Event, call_commit, call_gossip, run, AllTyped, AfterAnyRun, history_of}
use Rattle.history.specs.Demands.{DemandThree}
use Rattle.history.specs.StandIns.{CommitLike, KeepsCommit, RefusesAll, CommitsNothing, CommitsUnwritten, CommitsFirst, FlushLike, KeepsFlush, FlushesNothing, FlushesUnwritten, ReadLike, KeepsRead, ShowsZeros, ShowsCurrent, KeepsStanding, counts_of, Invents}
use Rattle.history.proofs.Demands.{demand_three}

-- ---- the night's first call, a commit of two writes, and items 1, 3 and 4 of the night, over a journal of 77 bytes
abbrev bytes : List ℕ
bytes = replicate 77 0

abbrev first : Outcome
first = commit_call fresh bytes 0 100 (0 ∷ []) (7 ∷ [])

abbrev two : Outcome
two = commit_call fresh bytes 0 100 (0 ∷ 1 ∷ []) (7 ∷ 8 ∷ [])

abbrev events : List Event
events = call_commit 100 (0 ∷ []) (7 ∷ []) ∷ call_commit 120 (0 ∷ []) (9 ∷ []) ∷ call_gossip 0 110 (105 ∷ []) ∷ []

typed : AllTyped events
typed = ((lit< tt, (lit< tt, tt)), ((lit< tt, (lit< tt, tt)), ((lit< tt, lit< tt, (lit< tt, tt)), tt)))

abbrev night : Machine
night = run (started bytes) events

abbrev flushed : Outcome
flushed = flush_call night.store night.journal night.place 0

-- two writes reported, and one stored
abbrev half : Store
half = commit_store fresh 100 (take 1 (paired (0 ∷ 1 ∷ []) (7 ∷ 8 ∷ [])))

-- what they come to
record Computed : Type 0 where
  fresh_last : fresh.last ≡ 0
  fresh_pending : (standing fresh).figures.pending ≡ 0
  first_done : code_of first.answer ≡ 0
  first_last : first.store.last ≡ 100
  first_byte : get_or first.journal 0 0 ≡ 1
  two_done : code_of two.answer ≡ 0
  two_pending : length two.store.pending ≡ 2
  half_pending : length half.pending ≡ 1
  night_pending : length night.store.pending ≡ 1
  night_stands : (standing night.store).figures.pending ≡ 1
  night_byte : get_or night.journal 75 0 ≡ 0
  night_now : get_or (page_now night.store 0) 0 0 ≡ 9
  night_read : get_or (snapshot_read night.store 107 0 (replicate 16 0)).buffer 0 0 ≡ 7
  flushed_pending : length flushed.store.pending ≡ 0
  flushed_byte : get_or flushed.journal 75 0 ≡ 3

computed : Computed
unfolding change answer_to damaged overfull fresh misnumbered doubled misordered objects_shaped stamps_shaped judge_commit judge_flush flush_store copies_after page16 page_as_of page_now some_slot against judge_gossip gossip_store write_one last_at reached encode written standing read_at snapshot_answer
computed = record {
  fresh_last = refl;
  fresh_pending = refl;
  first_done = refl;
  first_last = refl;
  first_byte = refl;
  two_done = refl;
  two_pending = refl;
  half_pending = refl;
  night_pending = refl;
  night_stands = refl;
  night_byte = refl;
  night_now = refl;
  night_read = refl;
  flushed_pending = refl;
  flushed_byte = refl;
}

-- ---- a commit
module _ (f : CommitLike) (k : KeepsCommit f) where
  pub refuses_all : RefusesAll f → ⊥
  refuses_all r = r fresh bytes 0 100 (0 ∷ []) (7 ∷ []) (ap (λ o. code_of o.answer) (k bytes [] tt 100 (0 ∷ []) (7 ∷ [])) ∙ computed.first_done)

  pub commits_nothing : CommitsNothing f → ⊥
  commits_nothing n =
      let e = sym (n fresh bytes 0 100 (0 ∷ []) (7 ∷ [])) ∙ ap (λ o. o.store) (k bytes [] tt 100 (0 ∷ []) (7 ∷ [])) in
      omega (arith, ap (λ st. st.last) e, computed.fresh_last, computed.first_last)

  pub commits_unwritten : CommitsUnwritten f → ⊥
  commits_unwritten n =
      let e = sym (n fresh bytes 0 100 (0 ∷ []) (7 ∷ [])) ∙ ap (λ o. o.journal) (k bytes [] tt 100 (0 ∷ []) (7 ∷ [])) in
      omega (arith, ap (λ j. get_or j 0 0) e, computed.first_byte)

  pub commits_first : CommitsFirst f → ⊥
  commits_first n =
      let o = k bytes [] tt 100 (0 ∷ 1 ∷ []) (7 ∷ 8 ∷ []) in
      let d = ap (λ o. code_of o.answer) o ∙ computed.two_done in
      let e = sym (n fresh bytes 0 100 (0 ∷ 1 ∷ []) (7 ∷ 8 ∷ []) d) ∙ ap (λ o. o.store) o in
      omega (arith, ap (λ st. length st.pending) e, computed.half_pending, computed.two_pending)

-- and it breaks demand 3: the machine that it leaves shows 0 where the history read off its journal says 8
pub first_shown : DemandThree (record { store = half; journal = two.journal; place = two.place }) → ⊥
unfolding change answer_to damaged overfull fresh misnumbered doubled misordered objects_shaped judge_commit write_one last_at reached encode written page16 page_now current_read history_of step_on decode
first_shown d =
    let e = (d.reads 0 (replicate 16 0) (lit< tt) refl).now 100 (le_refl 100) in
    let z : ◌≡◌ {A = ℕ} 0 8 = ap (λ s. get_or s.buffer 1 0) e in
    omega arith

-- ---- a flush
module _ (f : FlushLike) (k : KeepsFlush f) where
  pub flushes_nothing : FlushesNothing f → ⊥
  flushes_nothing n =
      let e = sym (n night.store night.journal night.place 0) ∙ ap (λ o. o.store) (k bytes events typed 0) in
      omega (arith, ap (λ st. length st.pending) e, computed.night_pending, computed.flushed_pending)

  pub flushes_unwritten : FlushesUnwritten f → ⊥
  flushes_unwritten n =
      let e = sym (n night.store night.journal night.place 0) ∙ ap (λ o. o.journal) (k bytes events typed 0) in
      omega (arith, ap (λ j. get_or j 75 0) e, computed.night_byte, computed.flushed_byte)

-- ---- a read: at 107 the night shows 7, now it shows 9
module _ (f : ReadLike) (k : KeepsRead f) where
  read_seven : (b : List ℕ) → (f night.store 107 0 (replicate 16 0)).buffer ≡ b → get_or b 0 0 ≡ 7
  read_seven b e = ap (λ l. get_or l 0 0) (sym e ∙ ap (λ s. s.buffer) (k bytes events typed 107 0 (replicate 16 0))) ∙ computed.night_read

  pub shows_zeros : ShowsZeros f → ⊥
  shows_zeros n = omega (arith, read_seven (replicate 16 0) (n night.store 107 0 (replicate 16 0)))

  pub shows_current : ShowsCurrent f → ⊥
  shows_current n = omega (arith, read_seven (page_now night.store 0) (n night.store 107 0 (replicate 16 0)), computed.night_now)

-- ---- standing
module _ (f : Store → Stood) (k : KeepsStanding f) where
  -- it counts the rows of every store that is reached
  pub counts : AfterAnyRun (λ m. (f m.store).figures ≡ counts_of m.store)
  unfolding standing
  counts j es y = ap (λ s. s.figures) (k j es y) ∙ rw (demand_three j es y).undamaged.store

  pub invents : Invents f → ⊥
  invents n =
      omega
      (arith, ap (λ s. s.figures.pending) (k bytes [] tt), ap (λ x. x.pending) (n fresh night.store), ap (λ s. s.figures.pending) (k bytes events typed), computed.fresh_pending, computed.night_stands)
