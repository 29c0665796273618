-- A state from bytes: its stamps one by one, what its judgement answers test by test, and the state that holds them.
use Prim.Native.Nat.{ℕ, suc, ◌+◌, ◌*◌, ◌-◌, ◌<◌, ◌≤◌}
use mathlib.Core.Path.{◌≡◌, refl, ap, ◌∙◌}
use mathlib.Core.Bool.{true, false, not}
use mathlib.Core.List.{List, [], ◌∷◌, ◌++◌}
use native.Mathlib.Omega.{arith}
use lib.ListN.{length, take, drop, get_or, length-append}
use lib.Seq.{drop-drop, length-take-le, take_at}
use lib.Dec.{ltb, eqb}
use borrow.Author.Tests.{lt-ltb, le-ltb, eq-eqb, ne_eqb}
use Rattle.model.specs.declared.Answer.{Answer}
use Rattle.model.specs.declared.Answer.TheVariants.{Done, Malformed}
use Rattle.model.specs.Lists.{either, pick, rising_from}
use Rattle.model.specs.Answers.{code_of}
use Rattle.model.specs.Bytes.{from_be, column}
use Rattle.model.specs.Coordinator.{Coordinator, fresh_coordinator}
use Rattle.model.specs.CoordinatorBytes.{size_of, count_in, stamps_of, risen, restart_answer, restart_coordinator}
use Rattle.journal.proofs.Walks.{column_length}
use Rattle.tables.proofs.Cases.{by_test}
use Rattle.tables.proofs.Counts.{up_to_take}
use Rattle.coordinator.specs.declared.State.{State}
use Rattle.coordinator.specs.States.{held, Restarted}
use Rattle.coordinator.specs.Bytes.{Sized, Taken, Bad}

-- ---- the stamps from the i-th of n on
abbrev pub stamps_from : List ℕ → ℕ → ℕ → List ℕ
stamps_from b n i = column 8 8 (n - i) (drop (10 + 8 * i) b)

abbrev pub stamp_at : List ℕ → ℕ → ℕ
stamp_at b i = from_be (take 8 (drop (10 + 8 * i) b))

stamps_cons : (b : List ℕ) (n i : ℕ) → i < n → stamps_from b n i ≡ stamp_at b i ∷ stamps_from b n (i + 1)
stamps_cons b n i h =
    let e : n - i ≡ suc (n - (i + 1)) = omega arith in
    let p : 10 + 8 * i + 8 ≡ 10 + 8 * (i + 1) = omega arith in
    rw (e, drop-drop 8 (10 + 8 * i) b, p)

module _ (b : List ℕ) (n lo i : ℕ) where
  pub risen_stop : i < n → stamp_at b i ≤ lo → i ≡ i + risen lo (stamps_from b n i)
  risen_stop h l = rw (stamps_cons b n i h, le-ltb lo (stamp_at b i) l) (omega arith)

  pub risen_next : i < n → lo < stamp_at b i → i + 1 + risen (stamp_at b i) (stamps_from b n (i + 1)) ≡ i + risen lo (stamps_from b n i)
  risen_next h l = rw (stamps_cons b n i h, lt-ltb lo (stamp_at b i) l) (omega arith)

-- ---- all stamps rise where none stands out of order
all_rise : (lo : ℕ) (ss : List ℕ) → length ss ≤ risen lo ss → rising_from lo ss ≡ true
all_rise lo [] h = refl
all_rise lo (s ∷ ss) h =
    let ih = all_rise s ss in
    by_test (ltb lo s) (λ t. rw t (ih (omega (arith, rw t at h)))) (λ t. absurd (omega (arith, rw t at h)))

some_fall : (lo : ℕ) (ss : List ℕ) → risen lo ss < length ss → rising_from lo ss ≡ false
some_fall lo [] h = absurd (omega arith)
some_fall lo (s ∷ ss) h =
    let ih = some_fall s ss in
    by_test (ltb lo s) (λ t. rw t (ih (omega (arith, rw t at h)))) (λ t. rw t)

-- ---- the answers
-- the judgement of bytes that begin with the version
abbrev judgement : List ℕ → Answer
judgement b =
    pick (ltb (length b) 10) (Malformed 1)
    (pick (either (ltb 64 (count_in b)) (not (eqb (length b) (size_of (count_in b))))) (Malformed 9)
    (pick (rising_from 0 (stamps_of b)) (Done (length b))
    (Malformed (size_of (risen 0 (stamps_of b))))))

same_judgement : (b : List ℕ) → 0 < length b → get_or b 0 0 ≡ 1 → judgement b ≡ restart_answer b
same_judgement [] h v = absurd (omega arith)
same_judgement (x ∷ r) h v = rw (eq-eqb x 1 v)

module _ (b : List ℕ) (h : 0 < length b) {n r : ℕ} (z : Sized b n) (e : r ≡ risen 0 (column 8 8 n (drop 10 b))) where
  sized : pick (rising_from 0 (stamps_of b)) (Done (length b)) (Malformed (size_of (risen 0 (stamps_of b)))) ≡ restart_answer b
  sized =
      let o : count_in b ≤ 64 = omega (arith, z.told, z.few) in
      let l : length b ≡ size_of (count_in b) = omega (arith, z.told, z.fits) in
      rw (← same_judgement b h z.versioned, le-ltb (length b) 10 (omega arith), le-ltb 64 (count_in b) o, eq-eqb (length b) (size_of (count_in b)) l)

  many : length (stamps_of b) ≡ count_in b
  many = column_length 8 8 (count_in b) (drop 10 b)

  rose : r ≡ risen 0 (stamps_of b)
  rose = e ∙ ap (λ (k : ℕ). risen 0 (column 8 8 k (drop 10 b))) z.told

  pub bad_stamp : r < n → Bad b (Malformed (10 + 8 * r))
  bad_stamp f = record {
    answered = rw (rose, ← sized, some_fall 0 (stamps_of b) (omega (arith, many, rose, z.told)));
    refused = λ c. absurd (omega arith);
  }

  pub good_stamps : {s : State} → n ≤ r → held s ≡ record { granted = column 8 8 n (drop 10 b); sent = from_be (take 8 (drop 1 b)) } → Taken b s (length b)
  good_stamps f k = record {
    answered = rw (← sized, all_rise 0 (stamps_of b) (omega (arith, many, rose, z.told)));
    holds = k ∙ ap (λ (m : ℕ). record { granted = column 8 8 m (drop 10 b); sent = from_be (take 8 (drop 1 b)) }) z.told;
  }

-- ---- the state that a restart writes, in place of s
module _ (s : State) (n : ℕ) (b : List ℕ) (l : length s.stamps ≡ 64) (f : n ≤ 64) where
  room : length (take n s.stamps) ≡ n
  room = length-take-le n s.stamps (omega arith)

  pub risen_room : {r : ℕ} → r ≡ risen 0 (column 8 8 (length (take n s.stamps)) b) → r ≡ risen 0 (column 8 8 n b)
  risen_room e = e ∙ ap (λ (k : ℕ). risen 0 (column 8 8 k b)) room

  pub took : {out : List ℕ} (rest : List ℕ) {sent t r : ℕ} → (length (take n s.stamps) ≤ r → out ≡ column 8 8 (length (take n s.stamps)) b) → n ≤ r → sent ≡ t
      → held (record { count = n; sent = sent; stamps = out ++ rest }) ≡ record { granted = column 8 8 n b; sent = t }
  took {out} rest {sent} g h x =
      let c : out ≡ column 8 8 n b = g (omega (arith, room)) ∙ ap (λ (k : ℕ). column 8 8 k b) room in
      let k : length out ≡ n = ap length c ∙ column_length 8 8 n b in
      let m : n ≤ length (out ++ rest) = simp length-append (omega arith) in
      rw (up_to_take 0 n (out ++ rest) m, take_at out rest n k) (λ i. record { granted = c i; sent = x i })

-- ---- what a restart leaves
pub restarted_none : {a : Answer} {k : Coordinator} (b : List ℕ) → length b ≡ 0 → a ≡ Done 0 → k ≡ fresh_coordinator → Restarted (restart_coordinator b) a k
unfolding restart_coordinator fresh_coordinator
restarted_none [] z e f = record { answered = e; holds = f }
restarted_none (x ∷ r) z e f = absurd (omega arith)

pub restarted_refused : {a : Answer} {k : Coordinator} (b : List ℕ) → Bad b a → k ≡ fresh_coordinator → Restarted (restart_coordinator b) a k
unfolding restart_coordinator
restarted_refused {a} b r f = rw (← r.answered, ne_eqb (code_of a) 0 r.refused) (record { answered = refl; holds = f })

pub restarted_done : {s : State} {n : ℕ} (b : List ℕ) → Taken b s n → Restarted (restart_coordinator b) (Done n) (held s)
unfolding restart_coordinator
restarted_done b t = rw (← t.answered) (record { answered = refl; holds = t.holds })
