-- What every act keeps of a coordinator and its repository, and so the theorem of document 02, request [1].
use Prim.Native.Nat.{ℕ, zero, suc, ◌^◌, max, ◌≤◌, ◌<◌}
use mathlib.Core.Path.{◌≡◌, ap, sym, ◌∙◌, subst}
use mathlib.Core.Bool.{true}
use mathlib.Core.List.{List, [], ◌∷◌, ◌++◌}
use native.Mathlib.Omega.{arith}
use lib.ListN.{length, take}
use lib.Dec.{leb, lit<}
use borrow.Author.Tests.{ne_eqb, leb-true}
use Rattle.model.specs.declared.Answer.{Answer}
use Rattle.model.specs.Lists.{both, pick}
use Rattle.model.specs.Answers.{code_of, is_done}
use Rattle.model.specs.Bytes.{write_at}
use Rattle.model.specs.Damage.{damaged}
use Rattle.model.specs.Changes.{Change, commit, gossip, flush, paired}
use Rattle.model.specs.Records.{encode, step_on}
use Rattle.model.specs.Calls.{Outcome, change, commit_call, flush_call}
use Rattle.model.specs.Coordinator.{Coordinator, fresh_coordinator, coordinator_damaged, stamp_of, granting, grant, stamps_in, curr_of, curr_for, message_for, Messaged, message}
use Rattle.model.specs.CoordinatorBytes.{coordinator_bytes, RestartedCoordinator, restart_coordinator}
use Rattle.model.specs.Exchange.{request_bytes, ask, Requested, request_in, served, serve, hear}
use Rattle.history.specs.Words.{All}
use Rattle.history.specs.Runs.{Machine, used, Event, call_commit, call_gossip, call_flush, call_read, call_fresh, cut, left, Typed, history_of, added, accepted_by}
use Rattle.history.specs.States.{started_again}
use Rattle.history.specs.Worlds.{World, begin, Act, grants, writes, asks, serves, hears, does, starts_again, sending, replied, hearing, with_machine, with_coordinator, acts, course, Own, ActTyped, InEveryWorld}
use Rattle.history.proofs.Laws.{by_test, by_le, split, pick_all}
use Rattle.history.proofs.Lists.{all_map, all_append, all_part, all_get_d}
use Rattle.history.proofs.Encoding.{encode_length, write_else}
use Rattle.history.proofs.Runs.{Faithful, fresh_faithful, nothing_used, surviving, call_faithful, event_faithful}
use Rattle.history.proofs.Coordinators.{Sane, sane_fresh, sane_more, undamaged_coordinator, Spoken, spoken_more, spoken_later, spoken_words, chosen, grant_cases, message_cases, request_back}
use Rattle.history.proofs.States.{state_back}
use Rattle.history.proofs.Heard.{Hers, hear_is}

-- ---- what was written
-- bytes of a message, of the stamps g, where n is the largest curr sent
pub record Written (g : List ℕ) (n : ℕ) (bytes : List ℕ) : Type 0 where
  pub prev : ℕ
  pub curr : ℕ
  pub stamps : List ℕ
  pub is : bytes ≡ encode (gossip prev curr stamps)
  pub spoken : Spoken g n prev curr stamps

-- bytes of a request
pub record Asked (bytes : List ℕ) : Type 0 where
  pub from : ℕ
  pub to : ℕ
  pub is : bytes ≡ request_bytes from to
  pub ordered : from ≤ to
  pub word : to < 2 ^ 64

-- ---- THE INVARIANT: the granted stamps ascend, and what was sent is a u64; the used bytes of the repository are a history whose gossip is
-- all the coordinator's
pub record Good (w : World) : Type 0 where
  pub sane : Sane w.coordinator.granted
  pub word : w.coordinator.sent < 2 ^ 64
  pub history : List Change
  pub faithful : Faithful w.machine history
  pub hers : All (Hers w.coordinator.granted w.coordinator.sent) history
  pub messages : All (Written w.coordinator.granted w.coordinator.sent) w.messages
  pub requests : All Asked w.requests

pub good_begin : (j : List ℕ) → Good (begin j)
unfolding fresh_coordinator
good_begin j = record { sane = sane_fresh; word = lit< tt; history = []; faithful = fresh_faithful j; hers = tt; messages = tt; requests = tt }

-- ---- a change of the coordinator that leaves every message as it was
module _ (g g₁ : List ℕ) (n n₁ : ℕ) (f : (prev curr : ℕ) (stamps : List ℕ) → Spoken g n prev curr stamps → Spoken g₁ n₁ prev curr stamps) where
  hers_still : (c : Change) → Hers g n c → Hers g₁ n₁ c
  hers_still (commit t ws) h = tt
  hers_still (gossip prev curr stamps) h = f prev curr stamps h
  hers_still (flush p) h = tt

  written_still : (bytes : List ℕ) → Written g n bytes → Written g₁ n₁ bytes
  written_still bytes h = record { prev = h.prev; curr = h.curr; stamps = h.stamps; is = h.is; spoken = f h.prev h.curr h.stamps h.spoken }

-- ---- a grant
good_grant : (w : World) (tick node : ℕ) → Good w → Good (acts w (grants tick node))
unfolding grant
good_grant w tick node h =
    let k = w.coordinator in
    grant_cases k tick node (λ a. Good (with_coordinator w (granting a k).coordinator)) h h h h
    (λ l m b.
    let s = stamp_of tick node in
    let still : (prev curr : ℕ) (stamps : List ℕ) → Spoken k.granted k.sent prev curr stamps → Spoken (k.granted ++ (s ∷ [])) k.sent prev curr stamps =
    λ prev curr stamps. spoken_more k.granted k.sent s prev curr stamps (omega arith) in
    record {
      sane = sane_more k.granted s h.sane (omega arith) m b;
      word = h.word;
      history = h.history;
      faithful = h.faithful;
      hers = all_map (hers_still k.granted (k.granted ++ (s ∷ [])) k.sent k.sent still) h.history h.hers;
      messages = all_map (written_still k.granted (k.granted ++ (s ∷ [])) k.sent k.sent still) w.messages h.messages;
      requests = h.requests;
    })

-- ---- a message
front : (bs buffer : List ℕ) → length bs ≤ length buffer → take (length bs) (write_at 0 bs buffer) ≡ bs
front bs buffer l = (write_else 0 bs buffer (omega arith)).here

-- what a coordinator writes for a prev and a clock stamp
module _ (k : Coordinator) (prev clock : ℕ) (buffer : List ℕ) (h : Sane k.granted) (r : 148 ≤ length buffer) (o : prev ≤ clock) (b : clock < 2 ^ 64) where
  pub front_message : take (length (encode (message_for k prev clock))) (write_at 0 (encode (message_for k prev clock)) buffer) ≡ encode (message_for k prev clock)
  unfolding message_for
  front_message =
      let ss = stamps_in prev clock k.granted in
      let s = chosen k.granted k.sent prev clock h o b in
      front (encode (message_for k prev clock)) buffer (omega (arith, encode_length (gossip prev (curr_of ss clock) (take 16 ss)), s.few))

  pub writes_message : (bytes : List ℕ) → bytes ≡ encode (message_for k prev clock) → Written k.granted (max k.sent (curr_for k prev clock)) bytes
  unfolding message_for
  writes_message bytes e =
      let ss = stamps_in prev clock k.granted in
      record { prev = prev; curr = curr_of ss clock; stamps = take 16 ss; is = e; spoken = chosen k.granted k.sent prev clock h o b }

good_message : (w : World) (prev clock : ℕ) (buffer : List ℕ) → clock < 2 ^ 64 → Good w → Good (replied w (message w.coordinator prev clock buffer))
good_message w prev clock buffer b h =
    let k = w.coordinator in
    message_cases k prev clock buffer (λ r. Good (replied w r))
    (λ a z. rw (ne_eqb (code_of a) 0 z) h)
    (λ r o.
    let n₁ = max k.sent (curr_for k prev clock) in
    let still : (prev curr : ℕ) (stamps : List ℕ) → Spoken k.granted k.sent prev curr stamps → Spoken k.granted n₁ prev curr stamps =
    λ prev curr stamps. spoken_later k.granted k.sent n₁ prev curr stamps (omega arith) in
    record {
      sane = h.sane;
      word = omega (arith, h.word, (chosen k.granted k.sent prev clock h.sane o b).word);
      history = h.history;
      faithful = h.faithful;
      hers = all_map (hers_still k.granted k.granted k.sent n₁ still) h.history h.hers;
      messages =
          all_append (Written k.granted n₁) w.messages _
          (all_map (written_still k.granted k.granted k.sent n₁ still) w.messages h.messages)
          (writes_message k prev clock buffer h.sane r o b _ (front_message k prev clock buffer h.sane r o b), tt);
      requests = h.requests;
    })

-- ---- a request, and the reply to it
pub front_request : (from to : ℕ) (buffer : List ℕ) → 19 ≤ length buffer → take 19 (write_at 0 (request_bytes from to) buffer) ≡ request_bytes from to
unfolding request_bytes
front_request from to buffer l = front (request_bytes from to) buffer l

good_ask : (w : World) (to : ℕ) (buffer : List ℕ) → to < 2 ^ 64 → Good w → Good (acts w (asks to buffer))
unfolding ask
good_ask w to buffer b h =
    let st = w.machine.store in
    let bs = request_bytes st.horizon to in
    let P : Answer → Type 0 = λ a.
    Good (record {
      coordinator = w.coordinator;
      machine = w.machine;
      messages = w.messages;
      requests = sending a (pick (is_done a) (write_at 0 bs buffer) buffer) w.requests;
    }) in
    pick_all P (damaged st) (λ _. h)
    (λ _. pick_all P (both (leb 19 (length buffer)) (leb st.horizon to))
    (λ e.
    let z = split (leb 19 (length buffer)) (leb st.horizon to) e in
    record {
      sane = h.sane;
      word = h.word;
      history = h.history;
      faithful = h.faithful;
      hers = h.hers;
      messages = h.messages;
      requests =
          all_append Asked w.requests _ h.requests
          (record { from = st.horizon; to = to; is = front_request st.horizon to buffer (leb-true 19 (length buffer) z.0); ordered = leb-true _ _ z.1; word = b }, tt);
    })
    (λ _. h))

-- what the coordinator does with bytes of a request: it writes the message
pub serve_is : (k : Coordinator) (buffer bytes : List ℕ) (a : Asked bytes) → serve k bytes buffer ≡ message k a.from a.to buffer
unfolding serve
serve_is k buffer bytes a =
    let o = a.ordered in
    let b = a.word in
    ap (λ (r : Requested). served r k buffer) (ap request_in a.is ∙ request_back a.from a.to (omega arith) b)

pub good_serve : (w : World) (i : ℕ) (buffer : List ℕ) → Good w → Good (acts w (serves i buffer))
unfolding serve request_in
good_serve w i buffer h =
    let k = w.coordinator in
    let P : List ℕ → Type 0 = λ bytes. Good (replied w (serve k bytes buffer)) in
    all_get_d P i w.requests [] (by_test (coordinator_damaged k) (λ e. rw e h) (λ e. rw e h))
    (all_map (λ bytes (a : Asked bytes). subst (λ (r : Messaged). Good (replied w r)) (sym (serve_is k buffer bytes a)) (good_message w a.from a.to buffer a.word h))
    w.requests h.requests)

-- ---- a message is heard
module _ (g : List ℕ) (n : ℕ) where
  hers_added : (o : Outcome) (c : Change) (h : List Change) → Hers g n c → All (Hers g n) h → All (Hers g n) (added o c h)
  hers_added o c h a b = pick_all (All (Hers g n)) (is_done o.answer) (λ _. all_append (Hers g n) h (c ∷ []) b (a, tt)) (λ _. b)

good_heard : (w : World) (bytes : List ℕ) → Good w → Written w.coordinator.granted w.coordinator.sent bytes
    → Good (with_machine w (left (hearing w.machine bytes)))
good_heard w bytes h t =
    let g = w.coordinator.granted in
    let n = w.coordinator.sent in
    let m = w.machine in
    let s = t.spoken in
    let c = gossip t.prev t.curr t.stamps in
    let o = change m.store m.journal m.place true c in
    let e : hearing m bytes ≡ o =
    ap (hear m.store m.journal m.place) t.is ∙ hear_is g n h.sane t.prev t.curr t.stamps s m.store m.journal m.place in
    subst (λ (x : Outcome). Good (with_machine w (left x))) (sym e)
    (record {
      sane = h.sane;
      word = h.word;
      history = added o c h.history;
      faithful = call_faithful m h.history true c h.faithful (spoken_words g n t.prev t.curr t.stamps h.sane s);
      hers = hers_added g n o c h.history s h.hers;
      messages = h.messages;
      requests = h.requests;
    })

good_hear : (w : World) (i : ℕ) → Good w → Good (acts w (hears i))
unfolding hear step_on
good_hear w i h =
    all_get_d (λ bytes. Good (with_machine w (left (hearing w.machine bytes)))) i w.messages [] h
    (all_map (λ bytes t. good_heard w bytes h t) w.messages h.messages)

-- ---- the repository's own calls, fresh starts and cuts
cut_hers : (P : Change → Type 0) (m : Machine) (h : List Change) → Faithful m h → All P h → (n : ℕ) → All P (history_of (take n (used m)))
unfolding history_of
cut_hers P m h f a zero = tt
cut_hers P m h f a (suc n) =
    by_le m.place 0
    (λ l. subst (λ (b : List ℕ). All P (history_of (take (suc n) b))) (sym (nothing_used m h f l)) tt)
    (λ l.
    let s = surviving m h f l n in
    subst (All P) (sym s.read_off) (all_part P s.kept s.lost (subst (All P) s.parts a)))

hers_own : (g : List ℕ) (n : ℕ) (m : Machine) (h : List Change) (e : Event) → Own e → Faithful m h → All (Hers g n) h → All (Hers g n) (accepted_by m h e)
hers_own g n m h (call_commit t os vs) o f a = hers_added g n (commit_call m.store m.journal m.place t os vs) (commit t (paired os vs)) h tt a
hers_own g n m h (call_gossip prev curr stamps) o f a = absurd o
hers_own g n m h (call_flush p) o f a = hers_added g n (flush_call m.store m.journal m.place p) (flush p) h tt a
hers_own g n m h call_read o f a = a
hers_own g n m h call_fresh o f a = tt
hers_own g n m h (cut i others) o f a = cut_hers (Hers g n) m h f a i

good_does : (w : World) (e : Event) → Own e → Typed e → Good w → Good (acts w (does e))
good_does w e o y h =
    let m = w.machine in
    record {
      sane = h.sane;
      word = h.word;
      history = accepted_by m h.history e;
      faithful = event_faithful m h.history e h.faithful y;
      hers = hers_own w.coordinator.granted w.coordinator.sent m h.history e o h.faithful h.hers;
      messages = h.messages;
      requests = h.requests;
    }

-- ---- a restart of the coordinator
pub same_again : (w : World) → Good w → restart_coordinator (coordinator_bytes w.coordinator) ≡ started_again w.coordinator
same_again w h = state_back w.coordinator (undamaged_coordinator w.coordinator h.sane) (h.word, h.sane.words)

good_again : (w : World) → Good w → Good (acts w starts_again)
good_again w h = subst (λ (r : RestartedCoordinator). Good (with_coordinator w r.coordinator)) (sym (same_again w h)) h

-- ---- any act, any course
pub good_act : (w : World) (a : Act) → ActTyped a → Good w → Good (acts w a)
good_act w (grants tick node) y h = good_grant w tick node h
good_act w (writes prev clock buffer) y h = good_message w prev clock buffer y.1 h
good_act w (asks to buffer) y h = good_ask w to buffer y h
good_act w (serves i buffer) y h = good_serve w i buffer h
good_act w (hears i) y h = good_hear w i h
good_act w (does e) y h = good_does w e y.0 y.1 h
good_act w starts_again y h = good_again w h

pub good_course : (es : List Act) (w : World) → All ActTyped es → Good w → Good (course w es)
good_course [] w y h = h
good_course (e ∷ es) w y h = good_course es (acts w e) y.1 (good_act w e y.0 h)

-- IN EVERY WORLD
pub good : InEveryWorld Good
good j es y = good_course es (begin j) y (good_begin j)
