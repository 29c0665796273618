-- The coordinator's state as bytes: what is kept is read, what is read was kept so; and the record of kind 4.
use Prim.Native.Nat.{ℕ, ◌+◌, ◌*◌, ◌%◌, ◌≤◌, ◌<◌}
use mathlib.Core.Path.{◌≡◌, refl, ap, sym, ◌∙◌}
use mathlib.Core.Bool.{true, false, not}
use mathlib.Core.List.{List, [], ◌∷◌, ◌++◌}
use native.Mathlib.Omega.{arith}
use lib.ListN.{length, take, drop, get_or, length-drop, take-append-drop, drop_of_length-le}
use lib.Dec.{ltb, eqb, lit<}
use borrow.Author.Tests.{ltb-false, le-ltb, eqb-true, eq-eqb, not-false}
use Rattle.model.specs.declared.Answer.{Answer}
use Rattle.model.specs.declared.Answer.TheVariants.{Done, Version, Malformed}
use Rattle.model.specs.Lists.{both, either, rising_from}
use Rattle.model.specs.Answers.{code_of}
use Rattle.model.specs.Bytes.{be, from_be, column}
use Rattle.model.specs.Records.{stamp_bytes, decode, malformed, step_on}
use Rattle.model.specs.Coordinator.{Coordinator, fresh_coordinator, coordinator_damaged}
use Rattle.model.specs.CoordinatorBytes.{coordinator_bytes, keep_coordinator, count_in, stamps_of, coordinator_in, restart_answer, RestartedCoordinator, restarted_coordinator, restart_coordinator}
use Rattle.model.specs.Exchange.{request_bytes, request, request_in}
use Rattle.history.specs.Words.{Bytes}
use Rattle.history.specs.Demands.{NotDone}
use Rattle.history.specs.States.{CoordinatorWords, started_again, StateBytes, RequestRecord}
use Rattle.history.proofs.Laws.{never, split, either_none, neither, pick_all, pick_cases}
use Rattle.history.proofs.Bytes.{below_drop, bytes_then, round_trip, back_take, field, bound_take, column_length, column_below}
use Rattle.history.proofs.Encoding.{stamp_length, stamp_bytes_lem, stamps_back, stamps_again, counted, write_else}
use Rattle.history.proofs.Coordinators.{request_back}

-- ---- how many they are
pub state_length : (k : Coordinator) → length (coordinator_bytes k) ≡ 10 + 8 * length k.granted
unfolding coordinator_bytes
state_length k = omega (arith, stamp_length k.granted)

-- one that isn't Damaged
module _ (k : Coordinator) (d : coordinator_damaged k ≡ false) where
  few_granted : length k.granted ≤ 64
  unfolding coordinator_damaged
  few_granted = ltb-false 64 (length k.granted) (either_none (ltb 64 (length k.granted)) (not (rising_from 0 k.granted)) d).0

  rising_granted : rising_from 0 k.granted ≡ true
  unfolding coordinator_damaged
  rising_granted = not-false (rising_from 0 k.granted) (either_none (ltb 64 (length k.granted)) (not (rising_from 0 k.granted)) d).1

  pub state_most : length (coordinator_bytes k) ≤ 522
  state_most = omega (arith, state_length k, few_granted)

  -- ---- kept, and read back
  pub state_keeps : (buffer : List ℕ) → 522 ≤ length buffer
      → ((keep_coordinator k buffer).answer ≡ Done (length (coordinator_bytes k)))
      × (take (length (coordinator_bytes k)) (keep_coordinator k buffer).buffer ≡ coordinator_bytes k)
  unfolding keep_coordinator
  state_keeps buffer l =
      rw (d, le-ltb (length buffer) 522 l) (ap Done (sym (state_length k)), (write_else 0 (coordinator_bytes k) buffer (omega (arith, state_most))).here)

  module _ (w : CoordinatorWords k) where
    holds_back : (count_in (coordinator_bytes k) ≡ length k.granted) × (coordinator_in (coordinator_bytes k) ≡ k)
    unfolding coordinator_bytes
    holds_back =
        let n : length k.granted % 256 ≡ length k.granted = omega (arith, few_granted) in
        let g : column 8 8 (length k.granted % 256) (stamp_bytes k.granted) ≡ k.granted = rw n (stamps_back k.granted w.1) in
        let s = round_trip 8 k.sent w.0 in
        (n, λ i. record { granted = g i; sent = s i })

    answers_back : restart_answer (coordinator_bytes k) ≡ Done (length (coordinator_bytes k))
    unfolding coordinator_bytes
    answers_back =
        let n = length (coordinator_bytes k) in
        let l = state_length k in
        let r : rising_from 0 (stamps_of (coordinator_bytes k)) ≡ true = ap (λ (c : Coordinator). rising_from 0 c.granted) holds_back.1 ∙ rising_granted in
        rw (le-ltb n 10 (omega arith), r, holds_back.0, le-ltb 64 (length k.granted) few_granted, eq-eqb n (10 + 8 * length k.granted) l)

    pub state_back : restart_coordinator (coordinator_bytes k) ≡ started_again k
    unfolding restart_coordinator
    state_back = rw answers_back (ap (λ c. record { answer = Done (length (coordinator_bytes k)); coordinator = c }) holds_back.1)

-- ---- what is accepted
pub record Accepts (bytes : List ℕ) : Type 0 where
  pub few : count_in bytes ≤ 64
  pub rising : rising_from 0 (stamps_of bytes) ≡ true
  -- unless there are none
  pub opens : 0 < length bytes → get_or bytes 0 0 ≡ 1
  pub whole : 0 < length bytes → length bytes ≡ 10 + 8 * count_in bytes

pub restart_cases : (P : RestartedCoordinator → Type 0) (bytes : List ℕ)
    → ((a : Answer) → NotDone a → P (record { answer = a; coordinator = fresh_coordinator }))
    → (Accepts bytes → P (record { answer = Done (length bytes); coordinator = coordinator_in bytes })) → P (restart_coordinator bytes)
unfolding restart_coordinator
restart_cases P [] refused accepted =
    accepted (record { few = omega arith; rising = refl; opens = λ l. absurd (omega arith); whole = λ l. absurd (omega arith) })
restart_cases P (v ∷ rest) refused accepted =
    let bytes = v ∷ rest in
    let Q : Answer → Type 0 = λ a. P (restarted_coordinator a (coordinator_in bytes)) in
    let many = ltb 64 (count_in bytes) in
    let other = not (eqb (length bytes) (10 + 8 * count_in bytes)) in
    pick_all Q (eqb v 1)
    (λ o. pick_all Q (ltb (length bytes) 10) (λ _. refused (Malformed 1) (λ e. omega arith))
    (λ _. pick_all Q (either many other) (λ _. refused (Malformed 9) (λ e. omega arith))
    (λ c. pick_all Q (rising_from 0 (stamps_of bytes))
    (λ r.
    let z = either_none many other c in
    accepted (record {
      few = ltb-false 64 (count_in bytes) z.0;
      rising = r;
      opens = λ _. eqb-true v 1 o;
      whole = λ _. eqb-true (length bytes) (10 + 8 * count_in bytes) (not-false _ z.1);
    }))
    (λ _. refused (Malformed _) (λ e. omega arith)))))
    (λ _. refused (Version v) (λ e. omega arith))

pub state_undamaged : (bytes : List ℕ) → coordinator_damaged (restart_coordinator bytes).coordinator ≡ false
unfolding coordinator_damaged fresh_coordinator
state_undamaged bytes =
    restart_cases (λ r. coordinator_damaged r.coordinator ≡ false) bytes (λ a n. refl)
    (λ t. neither (le-ltb 64 (length (stamps_of bytes)) (omega (arith, column_length 8 8 (count_in bytes) (drop 10 bytes), t.few))) (ap not t.rising))

pub state_words : (bytes : List ℕ) → Bytes bytes → CoordinatorWords (restart_coordinator bytes).coordinator
unfolding fresh_coordinator
state_words bytes b =
    restart_cases (λ r. CoordinatorWords r.coordinator) bytes (λ a n. (lit< tt, tt))
    (λ t. (bound_take 8 (drop 1 bytes) (below_drop 256 1 bytes b), column_below 8 8 (count_in bytes) (drop 10 bytes) (below_drop 256 10 bytes b)))

pub state_refused : (bytes : List ℕ) → NotDone (restart_coordinator bytes).answer → (restart_coordinator bytes).coordinator ≡ fresh_coordinator
state_refused bytes =
    restart_cases (λ r. NotDone r.answer → r.coordinator ≡ fresh_coordinator) bytes (λ a n _. refl) (λ t n. absurd (n refl))

-- ---- it was kept so
kept_so : (bytes : List ℕ) → Bytes bytes → 0 < length bytes → Accepts bytes → bytes ≡ coordinator_bytes (coordinator_in bytes)
unfolding coordinator_bytes
kept_so [] b l t = absurd (omega arith)
kept_so (v ∷ rest) b l t =
    let m = count_in (v ∷ rest) in
    let w = t.whole l in
    let ss = column 8 8 m (drop 9 rest) in
    let sent = back_take 8 rest b.1 (omega arith) in
    let stamps = stamps_again m (drop 9 rest) (below_drop 256 9 rest b.1) (simp length-drop (omega arith)) in
    let count = ap (λ (l : List ℕ). be 1 (length ss) ++ l) stamps ∙ counted 8 (length ss) rest b.1 (omega arith) (column_length 8 8 m (drop 9 rest)) in
    sym (λ i. sym (t.opens l) i ∷ ((λ j. sent j ++ count j) ∙ take-append-drop 8 rest) i)

pub state_encoding : (bytes : List ℕ) → Bytes bytes → 0 < length bytes → code_of (restart_coordinator bytes).answer ≡ 0
    → bytes ≡ coordinator_bytes (restart_coordinator bytes).coordinator
state_encoding bytes b l =
    restart_cases (λ r. code_of r.answer ≡ 0 → bytes ≡ coordinator_bytes r.coordinator) bytes (λ a n e. absurd (n e)) (λ t _. kept_so bytes b l t)

pub state_none : restart_coordinator [] ≡ record { answer = Done 0; coordinator = fresh_coordinator }
unfolding restart_coordinator fresh_coordinator
state_none = refl

pub state_bytes : (k : Coordinator) → Bytes (coordinator_bytes k)
unfolding coordinator_bytes
state_bytes k =
    let n = length k.granted in
    (lit< tt, bytes_then 8 k.sent (be 1 n ++ stamp_bytes k.granted) (bytes_then 1 n (stamp_bytes k.granted) (stamp_bytes_lem k.granted)))

-- THE STATE'S BYTES
pub states : StateBytes
states = record {
  size = state_length;
  most = state_most;
  bytes = state_bytes;
  keeps = λ k buffer d. state_keeps k d buffer;
  reads_back = state_back;
  one_encoding = state_encoding;
  none = state_none;
  undamaged = state_undamaged;
  words = state_words;
  refused = state_refused;
}

-- ---- the record of kind 4
request_encoding : (bytes : List ℕ) (from to : ℕ) → Bytes bytes → request_in bytes ≡ request from to → bytes ≡ request_bytes from to
unfolding request_in request_bytes
request_encoding bytes from to b e =
    let rest = both (eqb (from_be (take 2 bytes)) 17) (eqb (get_or bytes 2 0) 4) in
    pick_cases (both (eqb (length bytes) 19) rest) e
    (λ t p.
    let z = split (eqb (length bytes) 19) rest t in
    let y = split (eqb (from_be (take 2 bytes)) 17) (eqb (get_or bytes 2 0) 4) z.1 in
    let l = eqb-true (length bytes) 19 z.0 in
    let last = field 8 11 to bytes b (omega arith) (cc) in
    let upto = field 8 3 from bytes b (omega arith) (cc) in
    let kind = counted 2 4 bytes b (omega arith) (sym (eqb-true (get_or bytes 2 0) 4 y.1)) in
    let size = field 2 0 17 bytes b (omega arith) (eqb-true (from_be (take 2 bytes)) 17 y.0) in
    let none : drop 19 bytes ≡ [] = drop_of_length-le bytes {i = 19} (omega arith) in
    let all : be 2 17 ++ (be 1 4 ++ (be 8 from ++ (be 8 to ++ drop 19 bytes))) ≡ bytes =
    ap (λ x. be 2 17 ++ (be 1 4 ++ (be 8 from ++ x))) last ∙ ap (λ x. be 2 17 ++ (be 1 4 ++ x)) upto ∙ ap (λ x. be 2 17 ++ x) kind ∙ size in
    sym all ∙ ap (λ x. be 2 17 ++ (be 1 4 ++ (be 8 from ++ (be 8 to ++ x)))) none)
    (λ _ p. never (cc))

request_journal : (from to : ℕ) (rest : List ℕ) (at : ℕ) → step_on (request_bytes from to ++ rest) at ≡ malformed at
unfolding step_on request_bytes decode
request_journal from to rest at =
    let bytes = request_bytes from to ++ rest in
    rw (le-ltb (length bytes) 2 (omega arith), le-ltb (length (drop 2 bytes)) 17 (omega arith))

pub requests : RequestRecord
requests = record { reads_back = request_back; one_encoding = request_encoding; in_journal = request_journal }
