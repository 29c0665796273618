-- Document 02, request [1]: the theorem of the coordinator's end.
use Prim.Native.Nat.{ℕ, ◌^◌, max, ◌≤◌, ◌<◌}
use mathlib.Core.Path.{◌≡◌, refl, ap, sym, ◌∙◌, subst}
use mathlib.Core.Bool.{true, false}
use mathlib.Core.List.{List, [], ◌∷◌, ◌++◌, append-nil, append_assoc}
use native.Mathlib.Omega.{arith}
use lib.ListN.{length, take, get_or, get_or-eq_default}
use lib.Dec.{ltb, leb, eqb}
use borrow.Author.Tests.{le-leb}
use Rattle.model.specs.declared.Answer.{Answer}
use Rattle.model.specs.Lists.{both, elem_b}
use Rattle.model.specs.Answers.{code_of, number_of, is_done}
use Rattle.model.specs.Store.{Store}
use Rattle.model.specs.Damage.{damaged}
use Rattle.model.specs.Changes.{Change, commit, gossip, flush}
use Rattle.model.specs.Records.{encode, step_on}
use Rattle.model.specs.Calls.{Outcome}
use Rattle.model.specs.Limits.{most_journal}
use Rattle.model.specs.Coordinator.{Coordinator, top, coordinator_damaged, stamp_of, grant_shaped, grant_answer, granting, grant, stamps_in, curr_of, message_for, message_answer, Messaged, messaged, message}
use Rattle.model.specs.CoordinatorBytes.{keep_coordinator}
use Rattle.model.specs.Exchange.{ask, Requested, no_request, request, request_in, served, serve, hear}
use Rattle.history.specs.Words.{All}
use Rattle.history.specs.Runs.{Machine, Event, call_gossip, call_read, left, happens, run, Typed, AllTyped}
use Rattle.history.specs.Demands.{NotDamaged, DemandTwo, DemandThree}
use Rattle.history.proofs.Recorded.{demand_two}
use Rattle.history.proofs.Demands.{demand_three}
use Rattle.history.specs.Worlds.{Sound, World, begin, Act, grants, writes, asks, serves, hears, does, starts_again, sending, hearing, acts, course, ActTyped, InEveryWorld, Answered, Asks, reply_to, Closes, Idles, RunsAlone, Message, Coordinated}
use Rattle.history.proofs.Laws.{by_test, never, by_le, either_right, pick_all}
use Rattle.history.proofs.Lists.{all_map, all_part, all_rest, all_get_d}
use Rattle.history.proofs.Encoding.{encode_same}
use Rattle.history.proofs.Kept.{never_damaged}
use Rattle.history.proofs.Coordinators.{Sane, undamaged_coordinator, Spoken, spoken_formed, spoken_words, spoken_back, chosen, chosen_beyond, chosen_within, written_message, message_done, request_back}
use Rattle.history.proofs.Worlds.{Written, Asked, Good, good_begin, front_message, front_request, serve_is, good_serve, same_again, good_act, good_course, good}
use Rattle.history.proofs.Heard.{Knows, knows, hear_is, heard_stays, heard, heard_overlong, answered_codes, news_codes, gap_behind}

-- ---- a, b: a message in a good world
more_codes : (c : ℕ) → elem_b c (0 ∷ 1 ∷ 6 ∷ 12 ∷ []) ≡ true → elem_b c (0 ∷ 1 ∷ 3 ∷ 6 ∷ 12 ∷ []) ≡ true
more_codes c e =
    by_test (eqb 0 c) (λ q. rw q)
    (λ q. by_test (eqb 1 c) (λ r. rw (q, r)) (λ r. rw (q, r) (either_right (eqb 3 c) (rw (q, r) at e))))

asks_gap : (st : Store) (to : ℕ) → damaged st ≡ false → st.horizon < to → to < 2 ^ 64 → Asks st to
unfolding ask
asks_gap st to d l b buffer r =
    rw (d, le-leb 19 (length buffer) r, le-leb st.horizon to (omega arith))
    (refl, l, ap request_in (front_request st.horizon to buffer r) ∙ request_back st.horizon to (omega arith) b)

module _ (w : World) (h : Good w) where
  undamaged_store : damaged w.machine.store ≡ false
  undamaged_store = ap damaged h.faithful.stored ∙ never_damaged h.history h.faithful.accepted

  knows_granted : Knows w.coordinator.granted w.machine.store
  knows_granted =
      subst (Knows w.coordinator.granted) (sym h.faithful.stored)
      (knows w.coordinator.granted w.coordinator.sent h.sane h.history h.faithful.accepted h.hers)

  module _ (prev curr : ℕ) (s : Spoken w.coordinator.granted w.coordinator.sent prev curr (stamps_in prev curr w.coordinator.granted)) where
    message_is : Message w (encode (gossip prev curr (stamps_in prev curr w.coordinator.granted)))
    message_is =
        let g = w.coordinator.granted in
        let n = w.coordinator.sent in
        let m = w.machine in
        let ss = stamps_in prev curr g in
        let a = (hearing m (encode (gossip prev curr ss))).answer in
        let answers = heard g n h.sane prev curr ss s m knows_granted undamaged_store h.faithful.within in
        let over = heard_overlong g n h.sane prev curr ss s m knows_granted undamaged_store h.faithful.within in
        let In : Answer → Type 0 = λ a. elem_b (code_of a) (0 ∷ 1 ∷ 3 ∷ 6 ∷ 12 ∷ []) ≡ true in
        let is = hear_is g n h.sane prev curr ss s m.store m.journal m.place in
        let asks : m.store.horizon < prev → Asks m.store curr =
        λ l. asks_gap m.store curr undamaged_store (omega (arith, s.ordered)) s.word in
        record {
          prev = prev;
          curr = curr;
          reads = spoken_back g n prev curr ss h.sane s;
          not_beyond = omega (arith, s.until);
          answered = answers;
          overlong = over;
          codes =
              by_le (length m.journal) most_journal (λ l. more_codes (code_of a) (answered_codes m prev curr ss a (answers l)))
              (λ l. subst In (sym (over l)) refl);
          codes_shaped = λ l. answered_codes m prev curr ss a (answers l);
          gossips = is;
          gossip_codes = λ l. subst (λ (o : Outcome). elem_b (code_of o.answer) (0 ∷ 1 ∷ 6 ∷ 12 ∷ []) ≡ true) is (answered_codes m prev curr ss a (answers l));
          asks_for = asks;
          after_gap = λ e.
              let stays = heard_stays g n h.sane prev curr ss s m (λ z. omega arith) in
              let behind = by_le (length m.journal) most_journal (λ l. gap_behind m prev curr ss a (answers l) e) (λ l. absurd (omega (arith, e, ap code_of (over l)))) in
              subst (λ (st : Store). Asks st curr) (sym stays) (asks behind);
        }

  message_of : (bytes : List ℕ) → Written w.coordinator.granted w.coordinator.sent bytes → Message w bytes
  message_of bytes t =
      let g = w.coordinator.granted in
      let n = w.coordinator.sent in
      let s : Spoken g n t.prev t.curr (stamps_in t.prev t.curr g) = subst (Spoken g n t.prev t.curr) t.spoken.every t.spoken in
      let e : bytes ≡ encode (gossip t.prev t.curr (stamps_in t.prev t.curr g)) =
      t.is ∙ ap (λ x. encode (gossip t.prev t.curr x)) t.spoken.every in
      subst (Message w) (sym e) (message_is t.prev t.curr s)

-- ---- e: no message is ever taken back
abbrev Grown : List (List ℕ) → List (List ℕ) → Type 0
Grown before now = (more : List (List ℕ)) × (now ≡ before ++ more)

grown_not : (l : List (List ℕ)) → Grown l l
grown_not l = ([], sym (append-nil l))

grown_sending : (a : Answer) (buffer : List ℕ) (before : List (List ℕ)) → Grown before (sending a buffer before)
grown_sending a buffer before =
    pick_all (Grown before) (is_done a) (λ _. (take (number_of a) buffer ∷ [], refl)) (λ _. grown_not before)

grown_act : (w : World) (a : Act) → Grown w.messages (acts w a).messages
grown_act w (grants tick node) = grown_not w.messages
grown_act w (writes prev clock buffer) = let r = message w.coordinator prev clock buffer in grown_sending r.answer r.buffer w.messages
grown_act w (asks to buffer) = grown_not w.messages
grown_act w (serves i buffer) =
    let r = serve w.coordinator (get_or w.requests i []) buffer in grown_sending r.answer r.buffer w.messages
grown_act w (hears i) = grown_not w.messages
grown_act w (does e) = grown_not w.messages
grown_act w starts_again = grown_not w.messages

grown_course : (es : List Act) (w : World) → Grown w.messages (course w es).messages
grown_course [] w = grown_not w.messages
grown_course (e ∷ es) w =
    let a = grown_act w e in
    let b = grown_course es (acts w e) in
    (a.0 ++ b.0, b.1 ∙ ap (λ l. l ++ b.0) a.1 ∙ append_assoc w.messages a.0 b.0)

-- the reply to a request
record Reply (k : Coordinator) (bytes buffer : List ℕ) (from to : ℕ) : Type 0 where
  ordered : from ≤ to
  word : to < 2 ^ 64
  is : 148 ≤ length buffer → serve k bytes buffer ≡ written_message k from to buffer

module _ (k : Coordinator) (buffer : List ℕ) (from to : ℕ) (h : Sane k.granted) where
  reply_asked : (bytes : List ℕ) → Asked bytes → request_in bytes ≡ request from to → Reply k bytes buffer from to
  reply_asked bytes q e =
      let l = q.ordered in
      let b = q.word in
      let z : request q.from q.to ≡ request from to = sym (ap request_in q.is ∙ request_back q.from q.to (omega arith) b) ∙ e in
      let f : q.from ≡ from = cc in
      let t : q.to ≡ to = cc in
      record {
        ordered = omega arith;
        word = omega arith;
        is = λ r. serve_is k buffer bytes q ∙ message_done k q.from q.to buffer h r l ∙ (λ i. written_message k (f i) (t i) buffer);
      }

  reply : (rs : List (List ℕ)) → All Asked rs → (i : ℕ) → request_in (get_or rs i []) ≡ request from to → Reply k (get_or rs i []) buffer from to
  unfolding request_in
  reply rs a i =
      all_get_d (λ bytes. request_in bytes ≡ request from to → Reply k bytes buffer from to) i rs [] (λ e. never (cc)) (all_map reply_asked rs a)

abbrev AnsweredTo : Machine → Answer → Change → Type 0
AnsweredTo m a (commit t ws) = Unit {0}
AnsweredTo m a (gossip prev curr stamps) = Answered m prev curr stamps a
AnsweredTo m a (flush p) = Unit {0}

module _ (w v : World) (h : Good w) (d : Good v) (from to : ℕ) (o : from ≤ to) (b : to < 2 ^ 64) where
  -- the message that w writes, among those of v
  answered_later : Written v.coordinator.granted v.coordinator.sent (encode (message_for w.coordinator from to)) → length v.machine.journal ≤ most_journal
      → AnsweredTo v.machine (hearing v.machine (encode (message_for w.coordinator from to))).answer (message_for w.coordinator from to)
  unfolding message_for
  answered_later t j =
      let k = w.coordinator in
      let g = v.coordinator.granted in
      let n = v.coordinator.sent in
      let m = v.machine in
      let ss = stamps_in from to k.granted in
      let curr = curr_of ss to in
      let s = chosen k.granted k.sent from to h.sane o b in
      let n₁ = max k.sent curr in
      let said = gossip t.prev t.curr t.stamps in
      let same : gossip from curr (take 16 ss) ≡ said =
      encode_same (gossip from curr (take 16 ss)) said
      (spoken_formed k.granted n₁ from curr (take 16 ss) h.sane s) (spoken_formed g n t.prev t.curr t.stamps d.sane t.spoken)
      (spoken_words k.granted n₁ from curr (take 16 ss) h.sane s) (spoken_words g n t.prev t.curr t.stamps d.sane t.spoken) t.is in
      let a = heard g n d.sane t.prev t.curr t.stamps t.spoken m (knows_granted v d) (undamaged_store v d) d.faithful.within j in
      subst (λ (c : Change). AnsweredTo m (hearing m (encode c)).answer c) (sym same) a

-- the reply to the i-th request, in any later world
module _ (w : World) (h : Good w) (i from to : ℕ) (buffer : List ℕ) (e : request_in (get_or w.requests i []) ≡ request from to) (r : 148 ≤ length buffer) where
  asked : Reply w.coordinator (get_or w.requests i []) buffer from to
  asked = reply w.coordinator buffer from to h.sane w.requests h.requests i e

  reply_later : (es : List Act) → All ActTyped es → let v = course (acts w (serves i buffer)) es in length v.machine.journal ≤ most_journal
      → AnsweredTo v.machine (hearing v.machine (reply_to w i buffer)).answer (message_for w.coordinator from to)
  reply_later es y j =
      let k = w.coordinator in
      let served = asked.is r in
      let c = message_for k from to in
      let front = front_message k from to buffer h.sane r asked.ordered asked.word in
      let said : reply_to w i buffer ≡ encode c = ap (λ (x : Messaged). take (number_of x.answer) x.buffer) served ∙ front in
      let v = course (acts w (serves i buffer)) es in
      let d = good_course es (acts w (serves i buffer)) y (good_serve w i buffer h) in
      let more = grown_course es (acts w (serves i buffer)) in
      let joins : v.messages ≡ (w.messages ++ (encode c ∷ [])) ++ more.0 =
      more.1 ∙ ap (λ l. l ++ more.0) (ap (λ (x : Messaged). sending x.answer x.buffer w.messages) served ∙ ap (λ x. w.messages ++ (x ∷ [])) front) in
      let P = Written v.coordinator.granted v.coordinator.sent in
      let t = (all_rest P w.messages (encode c ∷ []) (all_part P (w.messages ++ (encode c ∷ [])) more.0 (subst (All P) joins d.messages))).0 in
      subst (λ (x : List ℕ). AnsweredTo v.machine (hearing v.machine x).answer c) (sym said)
      (answered_later w v h d from to asked.ordered asked.word t j)

closes_good : (w : World) → Good w → Closes w
unfolding message_for
closes_good w h i from to buffer e l r es y z j =
    let k = w.coordinator in
    let q = asked w h i from to buffer e r in
    let far = chosen_beyond k.granted k.sent from to h.sane q.ordered q.word l in
    news_codes _ _ _ _ _ (reply_later w h i from to buffer e r es y j) (omega arith) (omega arith)

idles_good : (w : World) → Good w → Idles w
unfolding message_for
idles_good w h i from buffer e r es y z j =
    let k = w.coordinator in
    let q = asked w h i from from buffer e r in
    let near = chosen_within k.granted k.sent from from h.sane q.ordered q.word in
    subst (λ (a : Answer). elem_b (code_of a) (1 ∷ []) ≡ true) (sym ((reply_later w h i from from buffer e r es y j).known (omega arith) (omega arith))) refl

-- ---- d: neither is ever Damaged
module _ (k : Coordinator) (d : coordinator_damaged k ≡ false) where
  grant_sound : (tick node : ℕ) → NotDamaged (grant k tick node).answer
  unfolding grant grant_answer
  grant_sound tick node =
      let Q : Answer → Type 0 = λ a. NotDamaged (granting a k).answer in
      rw d
      (pick_all Q (grant_shaped tick node)
      (λ _. pick_all Q (leb (stamp_of tick node) (top k)) (λ _ e. omega arith)
      (λ _. pick_all Q (leb 64 (length k.granted)) (λ _ e. omega arith) (λ _ e. omega arith)))
      (λ _ e. omega arith))

  message_sound : (prev clock : ℕ) (buffer : List ℕ) → NotDamaged (message k prev clock buffer).answer
  unfolding message message_answer
  message_sound prev clock buffer =
      rw d
      (pick_all (λ (a : Answer). NotDamaged (messaged a k prev clock buffer).answer) (both (leb 148 (length buffer)) (leb prev clock)) (λ _ e. omega arith)
      (λ _ e. omega arith))

  served_sound : (r : Requested) (buffer : List ℕ) → NotDamaged (served r k buffer).answer
  served_sound no_request buffer = rw d (λ e. omega arith)
  served_sound (request from to) buffer = message_sound from to buffer

  serve_sound : (bytes buffer : List ℕ) → NotDamaged (serve k bytes buffer).answer
  unfolding serve
  serve_sound bytes buffer = served_sound (request_in bytes) buffer

  keep_sound : (buffer : List ℕ) → NotDamaged (keep_coordinator k buffer).answer
  unfolding keep_coordinator
  keep_sound buffer = rw d (pick_all NotDamaged (ltb (length buffer) 522) (λ _ e. omega arith) (λ _ e. omega arith))

ask_sound : (st : Store) → damaged st ≡ false → (to : ℕ) (buffer : List ℕ) → NotDamaged (ask st to buffer).answer
unfolding ask
ask_sound st d to buffer =
    rw d (pick_all NotDamaged (both (leb 19 (length buffer)) (leb st.horizon to)) (λ _ e. omega arith) (λ _ e. omega arith))

sound_good : (w : World) → Good w → Sound w
sound_good w h =
    let d = undamaged_coordinator w.coordinator h.sane in
    record {
      coordinator = d;
      store = undamaged_store w h;
      grants = grant_sound w.coordinator d;
      messages = message_sound w.coordinator d;
      replies = serve_sound w.coordinator d;
      asks = ask_sound w.machine.store (undamaged_store w h);
      served = λ buffer l.
          all_map
          (λ bytes (a : Asked bytes).
          ap (λ (r : Messaged). code_of r.answer)
          (serve_is w.coordinator buffer bytes a ∙ message_done w.coordinator a.from a.to buffer h.sane l a.ordered))
          w.requests h.requests;
      keeps = keep_sound w.coordinator d;
      restarts = same_again w h;
    }

-- ---- a message or a request that isn't there
nothing_heard : (w : World) (k : ℕ) → length w.messages ≤ k → acts w (hears k) ≡ w
unfolding hear step_on
nothing_heard w k l = rw (get_or-eq_default w.messages [] l)

nothing_served : (w : World) (k : ℕ) (buffer : List ℕ) → length w.requests ≤ k → acts w (serves k buffer) ≡ w
unfolding serve request_in
nothing_served w k buffer l =
    rw (get_or-eq_default w.requests [] l) (by_test (coordinator_damaged w.coordinator) (λ e. rw e) (λ e. rw e))

-- THE COORDINATOR'S END, in every world
coordinated_good : (w : World) → Good w → Coordinated w
coordinated_good w h = record {
  messages = all_map (message_of w h) w.messages h.messages;
  knows = knows_granted w h;
  sound = sound_good w h;
  closes = closes_good w h;
  idles = idles_good w h;
  unheard = nothing_heard w;
  unserved = nothing_served w;
}

pub coordinated : InEveryWorld Coordinated
coordinated j es y = coordinated_good (course (begin j) es) (good j es y)

-- ---- every act is one event of the repository
pub record Alone (m n : Machine) : Type 0 where
  pub event : Event
  pub typed : Typed event
  pub is : n ≡ happens m event

alone_heard : (w : World) (bytes : List ℕ) → Good w → Written w.coordinator.granted w.coordinator.sent bytes
    → Alone w.machine (left (hearing w.machine bytes))
alone_heard w bytes h t =
    let m = w.machine in
    let g = w.coordinator.granted in
    let n = w.coordinator.sent in
    record {
      event = call_gossip t.prev t.curr t.stamps;
      typed = spoken_words g n t.prev t.curr t.stamps h.sane t.spoken;
      is =
          ap left (ap (hear m.store m.journal m.place) t.is
          ∙ hear_is g n h.sane t.prev t.curr t.stamps t.spoken m.store m.journal m.place);
    }

alone_act : (w : World) (a : Act) → ActTyped a → Good w → Alone w.machine (acts w a).machine
unfolding hear step_on
alone_act w (grants tick node) y h = record { event = call_read; typed = tt; is = refl }
alone_act w (writes prev clock buffer) y h = record { event = call_read; typed = tt; is = refl }
alone_act w (asks to buffer) y h = record { event = call_read; typed = tt; is = refl }
alone_act w (serves i buffer) y h = record { event = call_read; typed = tt; is = refl }
alone_act w (hears i) y h =
    all_get_d (λ bytes. Alone w.machine (left (hearing w.machine bytes))) i w.messages [] (record { event = call_read; typed = tt; is = refl })
    (all_map (λ bytes t. alone_heard w bytes h t) w.messages h.messages)
alone_act w (does e) y h = record { event = e; typed = y.1; is = refl }
alone_act w starts_again y h = record { event = call_read; typed = tt; is = refl }

alone_course : (es : List Act) (w : World) → All ActTyped es → Good w
    → (fs : List Event) × (AllTyped fs × ((course w es).machine ≡ run w.machine fs))
alone_course [] w y h = ([], (tt, refl))
alone_course (e ∷ es) w y h =
    let a = alone_act w e y.0 h in
    let b = alone_course es (acts w e) y.1 (good_act w e y.0 h) in
    (a.event ∷ b.0, ((a.typed, b.1.0), b.1.1 ∙ ap (λ m. run m b.0) a.is))

pub alone : InEveryWorld RunsAlone
alone j es y = (j, alone_course es (begin j) y (good_begin j))

-- THE BASE'S DEMANDS, in every world
pub demand_two_there : InEveryWorld (λ w. DemandTwo w.machine)
demand_two_there j es y = let a = alone j es y in subst DemandTwo (sym a.1.1.1) (demand_two a.0 a.1.0 a.1.1.0)

pub demand_three_there : InEveryWorld (λ w. DemandThree w.machine)
demand_three_there j es y = let a = alone j es y in subst DemandThree (sym a.1.1.1) (demand_three a.0 a.1.0 a.1.1.0)
