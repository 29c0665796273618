-- A repository whose gossip was all the coordinator's knows exactly the granted stamps up to its horizon; and how it answers a message.
use Prim.Native.Nat.{ℕ, min, ◌≤◌, ◌<◌}
use mathlib.Core.Path.{◌≡◌, refl, ap, sym, ◌∙◌, subst}
use mathlib.Core.Bool.{Bool, true, false}
use mathlib.Core.List.{List, [], ◌∷◌, ◌++◌}
use native.Mathlib.Omega.{arith}
use lib.ListN.{length}
use lib.Dec.{ltb, leb}
use borrow.Author.Tests.{lt-ltb, le-ltb, le-leb, lt-leb, eq-eqb}
use Rattle.model.specs.declared.Answer.{Answer}
use Rattle.model.specs.declared.Answer.TheVariants.{Shape, Gap}
use Rattle.model.specs.declared.Verdict.{Verdict}
use Rattle.model.specs.declared.Verdict.TheVariants.{Accepted, Idle, Refused}
use Rattle.model.specs.Limits.{most_journal}
use Rattle.model.specs.Lists.{kept, elem_b}
use Rattle.model.specs.Answers.{code_of, is_done}
use Rattle.model.specs.Store.{Store, fresh}
use Rattle.model.specs.Damage.{damaged}
use Rattle.model.specs.Changes.{Change, commit, gossip, flush, last_at, commit_store, gossip_store, flush_store}
use Rattle.model.specs.Judgement.{stamps_shaped, same, compared, against, judge_gossip}
use Rattle.model.specs.Records.{encode}
use Rattle.model.specs.Calls.{reached, roomed, answer_to, Outcome, change, gossip_call}
use Rattle.model.specs.Coordinator.{stamps_in}
use Rattle.model.specs.Exchange.{heard_step, hear}
use Rattle.history.specs.Words.{All}
use Rattle.history.specs.History.{replay_from, replay, AcceptedFrom, AllAccepted}
use Rattle.history.specs.Runs.{Machine}
use Rattle.history.specs.Demands.{NotDone}
use Rattle.history.specs.Worlds.{hearing, Answered}
use Rattle.history.proofs.Laws.{clash, by_le, both_left, pick_all}
use Rattle.history.proofs.Lists.{all_map, kept_length}
use Rattle.history.proofs.Judged.{gossip_ok}
use Rattle.history.proofs.Writes.{writes_same}
use Rattle.history.proofs.Determined.{change_refused}
use Rattle.history.proofs.Ranges.{kept_none, upto_range, beyond_range, range_upto, ranges}
use Rattle.history.proofs.Coordinators.{Sane, Spoken, spoken_formed, spoken_back}

-- the gossip of a history is the coordinator's
abbrev pub Hers : List ℕ → ℕ → Change → Type 0
Hers g n (commit t ws) = Unit {0}
Hers g n (gossip prev curr stamps) = Spoken g n prev curr stamps
Hers g n (flush p) = Unit {0}

-- the store knows the granted stamps up to its horizon
abbrev pub Knows : List ℕ → Store → Type 0
Knows g st = st.snapshots ≡ kept (λ s. leb s st.horizon) g

module _ (g : List ℕ) (n : ℕ) (k : Sane g) where
  pub gossip_knows : (st : Store) (prev curr : ℕ) (stamps : List ℕ) → prev ≤ st.horizon → st.horizon ≤ curr → Spoken g n prev curr stamps → Knows g st
      → st.snapshots ++ kept (ltb st.horizon) stamps ≡ kept (λ s. leb s curr) g
  gossip_knows st prev curr stamps l m s e =
      (λ i. e i ++ kept (ltb st.horizon) (s.every i))
      ∙ ap (λ x. kept (λ s. leb s st.horizon) g ++ x) (beyond_range prev curr st.horizon g l)
      ∙ ranges st.horizon curr g k.rising m

  knows_from : (h : List Change) (st : Store) → AcceptedFrom st h → All (Hers g n) h → Knows g st → Knows g (replay_from st h)
  unfolding gossip_store flush_store last_at
  knows_from [] st a t e = e
  knows_from (commit s ws ∷ cs) st a t e =
      let w = writes_same ws (last_at st s) s in
      knows_from cs (commit_store st s ws) a.2 t.1 (w.snapshots ∙ e ∙ ap (λ x. kept (λ s. leb s x) g) (sym w.horizon))
  knows_from (gossip prev curr stamps ∷ cs) st a t e =
      let o = gossip_ok st prev curr stamps a.0 a.1 in
      let new = o.new in
      knows_from cs (gossip_store st curr stamps) a.2 t.1 (gossip_knows st prev curr stamps o.no_gap (omega arith) t.0 e)
  knows_from (flush p ∷ cs) st a t e = knows_from cs (flush_store st p) a.2 t.1 e

  -- FROM THE HISTORY ALONE
  pub knows : (h : List Change) → AllAccepted h → All (Hers g n) h → Knows g (replay h)
  unfolding replay fresh
  knows h a t =
      knows_from h fresh a t (sym (kept_none (λ s. leb s 0) g (all_map (λ s (l : 0 < s). lt-leb s 0 l) g k.positive)))

-- ---- the judge of a message
compared_same : (l : List ℕ) → compared l l ≡ same
compared_same [] = refl
compared_same (x ∷ xs) = rw (eq-eqb x x refl) (compared_same xs)

module _ (g : List ℕ) (n : ℕ) (k : Sane g) (st : Store) (prev curr : ℕ) (stamps : List ℕ) (e : Knows g st) (s : Spoken g n prev curr stamps) where
  agrees : against st prev curr stamps ≡ same
  unfolding against
  agrees =
      let u = min curr st.horizon in
      let m : min curr u ≡ u = omega arith in
      let left : kept (λ s. leb s u) stamps ≡ stamps_in prev u g =
      ap (kept (λ s. leb s u)) s.every ∙ upto_range prev curr u g ∙ ap (λ x. stamps_in prev x g) m in
      let right : stamps_in prev u st.snapshots ≡ stamps_in prev u g = ap (stamps_in prev u) e ∙ range_upto prev u st.horizon g (omega arith) in
      (λ i. compared (left i) (right i)) ∙ compared_same (stamps_in prev u g)

  judged_gap : st.horizon < prev → judge_gossip st prev curr stamps ≡ Refused (Gap st.horizon)
  unfolding judge_gossip
  judged_gap l = rw (lt-ltb st.horizon prev l)

  judged_known : prev ≤ st.horizon → curr ≤ st.horizon → judge_gossip st prev curr stamps ≡ Idle
  unfolding judge_gossip
  judged_known l m = rw (le-ltb st.horizon prev l, agrees, le-leb curr st.horizon m)

  judged_new : prev ≤ st.horizon → st.horizon < curr → judge_gossip st prev curr stamps ≡ Accepted
  unfolding judge_gossip gossip_store
  judged_new l m =
      let q = gossip_knows g n k st prev curr stamps l (omega arith) s e in
      let few : length (st.snapshots ++ kept (ltb st.horizon) stamps) ≤ 64 =
      omega (arith, ap length q, kept_length (λ s. leb s curr) g, k.few) in
      rw (le-ltb st.horizon prev l, agrees, lt-leb curr st.horizon m, le-ltb 64 (length (st.snapshots ++ kept (ltb st.horizon) stamps)) few)

-- ---- the answer to a message
pub change_answer : (st : Store) (j : List ℕ) (used : ℕ) (good : Bool) (c : Change) → (change st j used good c).answer ≡ answer_to st j used good c
unfolding change
change_answer st j used good c =
    let a = answer_to st j used good c in pick_all (λ (o : Outcome). o.answer ≡ a) (is_done a) (λ _. refl) (λ _. refl)

module _ (g : List ℕ) (n : ℕ) (k : Sane g) (prev curr : ℕ) (stamps : List ℕ) (s : Spoken g n prev curr stamps) where
  -- hearing its bytes is the gossip call
  pub hear_is : (st : Store) (j : List ℕ) (used : ℕ) → hear st j used (encode (gossip prev curr stamps)) ≡ gossip_call st j used prev curr stamps
  unfolding hear
  hear_is st j used =
      let b = encode (gossip prev curr stamps) in
      ap (λ z. heard_step z (length b) st j used) (spoken_back g n prev curr stamps k s) ∙ rw (eq-eqb (length b) (length b) refl)

  -- refused, the store stays
  pub heard_stays : (m : Machine) → NotDone (hearing m (encode (gossip prev curr stamps))).answer → (hearing m (encode (gossip prev curr stamps))).store ≡ m.store
  heard_stays m =
      let c = gossip prev curr stamps in
      subst (λ (o : Outcome). NotDone o.answer → o.store ≡ m.store) (sym (hear_is m.store m.journal m.place))
      (λ z. (change_refused m.store m.journal m.place true c z).0)

  module _ (m : Machine) (e : Knows g m.store) (d : damaged m.store ≡ false) (w : m.place ≤ length m.journal) where
    heard_answer : (hearing m (encode (gossip prev curr stamps))).answer ≡ answer_to m.store m.journal m.place true (gossip prev curr stamps)
    heard_answer =
        ap (λ (o : Outcome). o.answer) (hear_is m.store m.journal m.place)
        ∙ change_answer m.store m.journal m.place true (gossip prev curr stamps)

    heard_roomed : length m.journal ≤ most_journal
        → (hearing m (encode (gossip prev curr stamps))).answer ≡ roomed (judge_gossip m.store prev curr stamps) m.journal m.place (gossip prev curr stamps)
    unfolding answer_to
    heard_roomed l =
        heard_answer
        ∙ rw (d, le-leb (length m.journal) 65535 l, le-leb m.place (length m.journal) w, both_left (stamps_shaped prev curr stamps) _ (spoken_formed g n prev curr stamps k s))

    pub heard_overlong : most_journal < length m.journal → (hearing m (encode (gossip prev curr stamps))).answer ≡ Shape
    unfolding answer_to
    heard_overlong l = heard_answer ∙ rw (d, lt-leb (length m.journal) 65535 l)

    pub heard : length m.journal ≤ most_journal → Answered m prev curr stamps (hearing m (encode (gossip prev curr stamps))).answer
    heard l =
        let c = gossip prev curr stamps in
        let room : Verdict → Answer = λ v. roomed v m.journal m.place c in
        record {
          gap = λ a. heard_roomed l ∙ ap room (judged_gap g n k m.store prev curr stamps e s a);
          known = λ a b. heard_roomed l ∙ ap room (judged_known g n k m.store prev curr stamps e s a b);
          done = λ a b r.
              heard_roomed l ∙ ap room (judged_new g n k m.store prev curr stamps e s a b) ∙ rw (le-leb (reached m.place c) (length m.journal) r);
          full = λ a b r.
              heard_roomed l ∙ ap room (judged_new g n k m.store prev curr stamps e s a b) ∙ rw (lt-leb (reached m.place c) (length m.journal) r);
        }

-- its codes
pub answered_codes : (m : Machine) (prev curr : ℕ) (stamps : List ℕ) (a : Answer) → Answered m prev curr stamps a
    → elem_b (code_of a) (0 ∷ 1 ∷ 6 ∷ 12 ∷ []) ≡ true
answered_codes m prev curr stamps a h =
    let r = reached m.place (gossip prev curr stamps) in
    let In : Answer → Type 0 = λ a. elem_b (code_of a) (0 ∷ 1 ∷ 6 ∷ 12 ∷ []) ≡ true in
    by_le prev m.store.horizon
    (λ l. by_le curr m.store.horizon
    (λ b. subst In (sym (h.known l b)) refl)
    (λ b. by_le r (length m.journal) (λ z. subst In (sym (h.done l b z)) refl) (λ z. subst In (sym (h.full l b z)) refl)))
    (λ l. subst In (sym (h.gap l)) refl)

-- where it is news, beyond the horizon but not behind a gap
pub news_codes : (m : Machine) (prev curr : ℕ) (stamps : List ℕ) (a : Answer) → Answered m prev curr stamps a → prev ≤ m.store.horizon
    → m.store.horizon < curr → elem_b (code_of a) (0 ∷ 12 ∷ []) ≡ true
news_codes m prev curr stamps a h l b =
    let In : Answer → Type 0 = λ a. elem_b (code_of a) (0 ∷ 12 ∷ []) ≡ true in
    by_le (reached m.place (gossip prev curr stamps)) (length m.journal) (λ z. subst In (sym (h.done l b z)) refl)
    (λ z. subst In (sym (h.full l b z)) refl)

-- Gap is answered only where the horizon is behind prev
pub gap_behind : (m : Machine) (prev curr : ℕ) (stamps : List ℕ) (a : Answer) → Answered m prev curr stamps a → code_of a ≡ 6 → m.store.horizon < prev
gap_behind m prev curr stamps a h g =
    by_le prev m.store.horizon
    (λ l. by_le curr m.store.horizon (λ b. absurd (omega (arith, g, ap code_of (h.known l b))))
    (λ b. clash (elem_b (code_of a) (0 ∷ 12 ∷ [])) (news_codes m prev curr stamps a h l b) (rw g)))
    (λ l. l)
