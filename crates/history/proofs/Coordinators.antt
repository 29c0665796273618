-- The coordinator's calls: what a message says, that it is well formed and reads back, and that a later grant adds nothing to it.
use Prim.Native.Nat.{ℕ, ◌+◌, ◌^◌, max, min, ◌≤◌, ◌<◌}
use mathlib.Core.Path.{◌≡◌, refl, ap, sym, ◌∙◌, subst}
use mathlib.Core.Bool.{Bool, true, false}
use mathlib.Core.List.{List, [], ◌∷◌, ◌++◌, append-nil}
use native.Mathlib.Nat.{zero-add}
use native.Mathlib.Omega.{arith}
use lib.ListN.{length, take, get_or, length-take, length-append}
use lib.Seq.{take_all, length-take-le}
use lib.Dec.{ltb, leb}
use borrow.Author.Tests.{ltb-true, ltb-false, leb-true, leb-false, le-ltb, le-leb}
use Rattle.model.specs.declared.Answer.{Answer}
use Rattle.model.specs.declared.Answer.TheVariants.{Done, Damaged, Shape, Late, SnapshotsFull}
use Rattle.model.specs.Limits.{last_tick}
use Rattle.model.specs.Lists.{both, all_b, rising_from}
use Rattle.model.specs.Answers.{code_of}
use Rattle.model.specs.Bytes.{write_at}
use Rattle.model.specs.Changes.{gossip}
use Rattle.model.specs.Judgement.{stamps_shaped, well_formed}
use Rattle.model.specs.Records.{encode, whole, step_on}
use Rattle.model.specs.Coordinator.{Coordinator, highest, top, coordinator_damaged, stamp_of, grant_shaped, grant_answer, stamps_in, curr_of, curr_for, message_for, message_answer, Messaged, messaged, message}
use Rattle.model.specs.Exchange.{request_bytes, request, request_in}
use Rattle.history.specs.Words.{All, Below, Words}
use Rattle.history.proofs.Laws.{by_test, by_le, both_yes, split, pick_all}
use Rattle.history.proofs.Lists.{Rising, all_map, all_every, kept_length, all_kept, all_append, rising_kept, rising_append, true_rising}
use Rattle.history.proofs.Bytes.{round_trip}
use Rattle.history.proofs.Encoding.{reads_back}
use Rattle.history.proofs.Ranges.{kept_none, before, beyond, range_parts, in_range, upto_range, all_at, first_upto, below_highest, range_more}

-- ---- what holds of its granted stamps
pub record Sane (g : List ℕ) : Type 0 where
  pub rising : Rising g
  pub positive : All (λ s. 0 < s) g
  pub few : length g ≤ 64
  pub words : Below (2 ^ 64) g

pub sane_fresh : Sane []
sane_fresh = record { rising = tt; positive = tt; few = omega arith; words = tt }

pub sane_more : (g : List ℕ) (s : ℕ) → Sane g → highest g < s → length g < 64 → s < 2 ^ 64 → Sane (g ++ (s ∷ []))
sane_more g s k l m b = record {
  rising = rising_append (highest g) g (s ∷ []) k.rising (below_highest g) (tt, tt) (l, tt);
  positive = all_append (λ s. 0 < s) g (s ∷ []) k.positive (omega arith, tt);
  few = omega (arith, length-append g (s ∷ []));
  words = all_append (λ s. s < 2 ^ 64) g (s ∷ []) k.words (b, tt);
}

pub undamaged_coordinator : (k : Coordinator) → Sane k.granted → coordinator_damaged k ≡ false
unfolding coordinator_damaged
undamaged_coordinator k h = rw (le-ltb 64 (length k.granted) h.few, true_rising 0 k.granted h.positive h.rising)

-- ---- a message with all of the stamps g after prev up to curr, where n is the largest curr sent
pub record Spoken (g : List ℕ) (n prev curr : ℕ) (stamps : List ℕ) : Type 0 where
  pub ordered : prev ≤ curr
  pub few : length stamps ≤ 16
  pub every : stamps ≡ stamps_in prev curr g
  pub until : curr ≤ n
  pub word : curr < 2 ^ 64

pub spoken_more : (g : List ℕ) (n s prev curr : ℕ) (stamps : List ℕ) → n < s → Spoken g n prev curr stamps → Spoken (g ++ (s ∷ [])) n prev curr stamps
spoken_more g n s prev curr stamps l k = record {
  ordered = k.ordered;
  few = k.few;
  every = k.every ∙ sym (range_more prev curr s g (omega (arith, k.until)));
  until = k.until;
  word = k.word;
}

pub spoken_later : (g : List ℕ) (n m prev curr : ℕ) (stamps : List ℕ) → n ≤ m → Spoken g n prev curr stamps → Spoken g m prev curr stamps
spoken_later g n m prev curr stamps l k =
    record { ordered = k.ordered; few = k.few; every = k.every; until = omega (arith, k.until); word = k.word }

-- it is well formed, of words, and reads back
true_all : {A : Type 0} (f : A → Bool) (l : List A) → All (λ x. f x ≡ true) l → all_b f l ≡ true
true_all f [] h = refl
true_all f (x ∷ xs) h = both_yes h.0 (true_all f xs h.1)

module _ (g : List ℕ) (n prev curr : ℕ) (stamps : List ℕ) (h : Sane g) (k : Spoken g n prev curr stamps) where
  pub spoken_formed : well_formed (gossip prev curr stamps) ≡ true
  unfolding stamps_shaped
  spoken_formed =
      let ss = stamps_in prev curr g in
      let b = in_range prev curr g in
      let few = k.few in
      let ordered = k.ordered in
      let r : rising_from prev stamps ≡ true =
      ap (rising_from prev) k.every
      ∙ true_rising prev ss (all_map (λ s (e : (prev < s) × (s ≤ curr)). e.0) ss b) (rising_kept (λ s. both (ltb prev s) (leb s curr)) g h.rising) in
      let a : all_b (λ s. leb s curr) stamps ≡ true =
      ap (all_b (λ s. leb s curr)) k.every
      ∙ true_all (λ s. leb s curr) ss (all_map (λ s (e : (prev < s) × (s ≤ curr)). le-leb s curr e.1) ss b) in
      rw (le-leb (length stamps) 16 few, le-leb prev curr ordered, r, a)

  pub spoken_words : Words (gossip prev curr stamps)
  spoken_words =
      let w = k.word in
      (omega (arith, k.ordered), w, subst (Below (2 ^ 64)) (sym k.every) (all_kept (λ s. s < 2 ^ 64) (λ s. both (ltb prev s) (leb s curr)) g h.words))

  pub spoken_back : step_on (encode (gossip prev curr stamps)) 0 ≡ whole (gossip prev curr stamps) (length (encode (gossip prev curr stamps)))
  spoken_back =
      ap (λ (b : List ℕ). step_on b 0) (sym (append-nil (encode (gossip prev curr stamps))))
      ∙ reads_back (gossip prev curr stamps) spoken_formed spoken_words [] 0 ∙ ap (whole (gossip prev curr stamps)) (zero-add _)

-- ---- the message for a prev and a clock stamp
module _ (g : List ℕ) (n prev clock : ℕ) (h : Sane g) (l : prev ≤ clock) (b : clock < 2 ^ 64) where
  pub chosen : let ss = stamps_in prev clock g in let curr = curr_of ss clock in Spoken g (max n curr) prev curr (take 16 ss)
  chosen =
      let ss = stamps_in prev clock g in
      let few : length (take 16 ss) ≤ 16 = simp length-take (omega arith) in
      by_test (ltb 16 (length ss))
      (λ e.
      let many = ltb-true 16 (length ss) e in
      let c = get_or ss 15 0 in
      let r = all_at (λ s. (prev < s) × (s ≤ clock)) 15 ss 0 (omega arith) (in_range prev clock g) in
      let low = r.0 in
      let high = r.1 in
      let m : min clock c ≡ c = omega arith in
      rw e
      (record {
        ordered = omega arith;
        few = few;
        every =
            first_upto 15 ss (rising_kept (λ s. both (ltb prev s) (leb s clock)) g h.rising) (omega arith)
            ∙ upto_range prev clock c g ∙ ap (λ x. stamps_in prev x g) m;
        until = omega arith;
        word = omega arith;
      }))
      (λ e.
      let m = ltb-false 16 (length ss) e in
      rw e (record { ordered = l; few = few; every = take_all 16 ss m; until = omega arith; word = b }))

  -- it reaches beyond prev, where the clock does
  pub chosen_beyond : prev < clock → prev < curr_of (stamps_in prev clock g) clock
  chosen_beyond m =
      let ss = stamps_in prev clock g in
      pick_all (λ (x : ℕ). prev < x) (ltb 16 (length ss))
      (λ e.
      let many = ltb-true 16 (length ss) e in
      (all_at (λ s. (prev < s) × (s ≤ clock)) 15 ss 0 (omega arith) (in_range prev clock g)).0)
      (λ e. m)

  pub chosen_within : curr_of (stamps_in prev clock g) clock ≤ clock
  chosen_within =
      let ss = stamps_in prev clock g in
      pick_all (λ (x : ℕ). x ≤ clock) (ltb 16 (length ss))
      (λ e.
      let many = ltb-true 16 (length ss) e in
      (all_at (λ s. (prev < s) × (s ≤ clock)) 15 ss 0 (omega arith) (in_range prev clock g)).1)
      (λ e. omega arith)

  -- each message leaves sixteen fewer to be told, and the last reaches the clock stamp
  pub nearer : (m : ℕ) → length (stamps_in prev clock g) ≤ 16 + m → length (stamps_in (curr_of (stamps_in prev clock g) clock) clock g) ≤ m
  nearer m few =
      let ss = stamps_in prev clock g in
      let c = curr_of ss clock in
      let s = chosen in
      by_test (ltb 16 (length ss))
      (λ e.
      let many = ltb-true 16 (length ss) e in
      let parts = ap length (range_parts prev c clock g h.rising s.ordered chosen_within) in
      let first : length (stamps_in prev c g) ≡ 16 = ap length (sym s.every) ∙ length-take-le 16 ss (omega arith) in
      omega (arith, length-append (stamps_in prev c g) (stamps_in c clock g), parts, first))
      (λ e.
      let z : c ≡ clock = rw e in
      let none : stamps_in clock clock g ≡ [] = kept_none (λ s. both (ltb clock s) (leb s clock)) g (all_every (λ s. both (ltb clock s) (leb s clock) ≡ false) (λ s. by_le s clock (λ a. before clock clock s a) (λ a. beyond clock clock s a)) g) in
      subst (λ (x : ℕ). length (stamps_in x clock g) ≤ m) (sym z) (omega (arith, ap length none)))

  pub reaches : length (stamps_in prev clock g) ≤ 16 → curr_of (stamps_in prev clock g) clock ≡ clock
  reaches few = rw (le-ltb 16 (length (stamps_in prev clock g)) few)

-- FOUR MESSAGES, each from the curr of the one before, reach any clock stamp
pub four : (k : Coordinator) (prev clock : ℕ) → Sane k.granted → prev ≤ clock → clock < 2 ^ 64
    → curr_for k (curr_for k (curr_for k (curr_for k prev clock) clock) clock) clock ≡ clock
four k prev clock h l b =
    let g = k.granted in
    let n = k.sent in
    let c₁ = curr_for k prev clock in
    let c₂ = curr_for k c₁ clock in
    let c₃ = curr_for k c₂ clock in
    let l₁ = chosen_within g n prev clock h l b in
    let l₂ = chosen_within g n c₁ clock h l₁ b in
    let l₃ = chosen_within g n c₂ clock h l₂ b in
    let all : length (stamps_in prev clock g) ≤ 16 + 48 = omega (arith, kept_length (λ s. both (ltb prev s) (leb s clock)) g, h.few) in
    let a₁ = nearer g n prev clock h l b 48 all in
    let a₂ = nearer g n c₁ clock h l₁ b 32 a₁ in
    let a₃ = nearer g n c₂ clock h l₂ b 16 a₂ in
    reaches g n c₃ clock h l₃ b a₃

-- ---- the calls
module _ (k : Coordinator) (tick node : ℕ) where
  pub grant_cases : (P : Answer → Type 0) → P Damaged → P Shape → P (Late (top k)) → P SnapshotsFull
      → (top k < stamp_of tick node → length k.granted < 64 → stamp_of tick node < 2 ^ 64 → P (Done (stamp_of tick node))) → P (grant_answer k tick node)
  unfolding grant_answer
  grant_cases P two three five ten zero =
      pick_all P (coordinator_damaged k) (λ _. two)
      (λ _. pick_all P (grant_shaped tick node)
      (λ s. pick_all P (leb (stamp_of tick node) (top k)) (λ _. five)
      (λ l. pick_all P (leb 64 (length k.granted)) (λ _. ten)
      (λ m.
      let z = split (leb tick last_tick) (ltb node 256) s in
      zero (leb-false _ _ l) (leb-false _ _ m) (omega (arith, leb-true tick last_tick z.0, ltb-true node 256 z.1)))))
      (λ _. three))

module _ (k : Coordinator) (prev clock : ℕ) (buffer : List ℕ) where
  abbrev pub written_message : Messaged
  written_message = record {
    answer = Done (length (encode (message_for k prev clock)));
    coordinator = record { granted = k.granted; sent = max k.sent (curr_for k prev clock) };
    buffer = write_at 0 (encode (message_for k prev clock)) buffer;
  }

  pub message_cases : (P : Messaged → Type 0)
      → ((a : Answer) → (code_of a ≡ 0 → ⊥) → P (record { answer = a; coordinator = k; buffer = buffer }))
      → (148 ≤ length buffer → prev ≤ clock → P written_message) → P (message k prev clock buffer)
  unfolding message message_answer
  message_cases P refused done =
      let Q : Answer → Type 0 = λ a. P (messaged a k prev clock buffer) in
      pick_all Q (coordinator_damaged k) (λ _. refused Damaged (λ e. omega arith))
      (λ _. pick_all Q (both (leb 148 (length buffer)) (leb prev clock))
      (λ s. let z = split (leb 148 (length buffer)) (leb prev clock) s in done (leb-true _ _ z.0) (leb-true _ _ z.1))
      (λ _. refused Shape (λ e. omega arith)))

  pub message_done : Sane k.granted → 148 ≤ length buffer → prev ≤ clock → message k prev clock buffer ≡ written_message
  unfolding message message_answer
  message_done h l m = rw (undamaged_coordinator k h, le-leb 148 (length buffer) l, le-leb prev clock m)

-- ---- a request reads back
pub request_back : (from to : ℕ) → from < 2 ^ 64 → to < 2 ^ 64 → request_in (request_bytes from to) ≡ request from to
unfolding request_in request_bytes
request_back from to a b =
    let p = round_trip 8 from a in
    let q = round_trip 8 to b in
    λ i. request (p i) (q i)
