-- The verdict on a commit, test by test; the lengths that it is judged by; and what a verdict tells.
use Prim.Native.Nat.{ℕ, ◌+◌, ◌-◌, ◌≤◌, ◌<◌, max}
use mathlib.Core.Path.{◌≡◌, refl, ap, ◌∙◌, subst}
use mathlib.Core.Bool.{Bool, true, false}
use mathlib.Core.List.{List, [], map}
use native.Mathlib.Omega.{arith}
use lib.ListN.{length}
use lib.Dec.{ltb, leb}
use borrow.Author.Tests.{lt-ltb, le-ltb, le-leb, lt-leb, leb-true, ltb-false, leb-false}
use Rattle.model.specs.declared.Answer.{Answer}
use Rattle.model.specs.declared.Answer.TheVariants.{Late, PendingFull, PastFull}
use Rattle.model.specs.declared.Verdict.{Verdict}
use Rattle.model.specs.declared.Verdict.TheVariants.{Accepted, Idle, Refused}
use Rattle.model.specs.Answers.{code_of}
use Rattle.model.specs.Lists.{pick, both, either, twice_b}
use Rattle.model.specs.Store.{Store}
use Rattle.model.specs.Changes.{Write, paired, last_at, commit_store}
use Rattle.model.specs.Judgement.{judge_commit}
use Rattle.tables.specs.declared.Store as whole
use Rattle.tables.specs.Rows.{pending_of, past_of, pendings, pasts}
use Rattle.tables.specs.Contents.{stored, Counted}
use Rattle.tables.proofs.Cases.{by_test}
use Rattle.tables.proofs.Counts.{up_to_length}
use Rattle.tables.proofs.Searches.{both_left, both_right}
use Rattle.commits.specs.Rows.{trues, new_in, live_in, displaces_in}
use Rattle.commits.specs.Promises.{Room}
use Rattle.commits.proofs.Counting.{trues_few}
use Rattle.commits.proofs.Growth.{pending_growth, past_growth}

-- ---- the verdict, test by test
module _ (st : Store) (t : ℕ) (ws : List Write) where
  say_late : t ≤ max st.last st.horizon → Refused (Late (max st.last st.horizon)) ≡ judge_commit st t ws
  unfolding judge_commit
  say_late l =
      by_test (leb t st.last)
      (λ q. rw q)
      (λ q. rw (q, le-leb t st.horizon (omega (arith, leb-false t st.last q))))

  module _ (l : st.last < t) (h : st.horizon < t) where
    say_pending : 128 < length (commit_store st t ws).pending → Refused PendingFull ≡ judge_commit st t ws
    unfolding judge_commit
    say_pending p = rw (lt-leb t st.last l, lt-leb t st.horizon h, lt-ltb 128 _ p)

    module _ (p : length (commit_store st t ws).pending ≤ 128) where
      say_past : 256 < length (commit_store st t ws).past → Refused PastFull ≡ judge_commit st t ws
      unfolding judge_commit
      say_past q = rw (lt-leb t st.last l, lt-leb t st.horizon h, le-ltb 128 _ p, lt-ltb 256 _ q)

      say_accepted : length (commit_store st t ws).past ≤ 256 → Accepted ≡ judge_commit st t ws
      unfolding judge_commit
      say_accepted q = rw (lt-leb t st.last l, lt-leb t st.horizon h, le-ltb 128 _ p, le-ltb 256 _ q)

-- ---- over the whole store: the lengths that a commit would leave, and the verdict by them
module _ (s : whole.Store) (t : ℕ) (os : List ℕ) where
  abbrev Judges : Verdict → Type 0
  Judges v = (vs : List ℕ) → length vs ≡ length os → v ≡ judge_commit (stored s) t (paired os vs)

  module _ (d : twice_b os ≡ false) where
    more_pending : (vs : List ℕ) → length vs ≡ length os → length (commit_store (stored s) t (paired os vs)).pending ≡ s.heads.pending + trues (map (new_in (stored s).pending) os)
    unfolding last_at
    more_pending vs l = omega (arith, pending_growth t os vs (last_at (stored s) t) l d, up_to_length (pending_of []) s.heads.pending (pendings s.written.pending))

    more_past : (vs : List ℕ) → length vs ≡ length os → length (commit_store (stored s) t (paired os vs)).past ≡ s.heads.past + trues (map (displaces_in (live_in (stored s)) t (stored s).pending) os)
    unfolding last_at
    more_past vs l = omega (arith, past_growth t os vs (last_at (stored s) t) l d, up_to_length (past_of []) s.heads.past (pasts s.written.past))

  module _ {latest : ℕ} (late : latest ≡ max s.heads.last s.heads.horizon) (d : twice_b os ≡ false) where
    pub judged_late : t ≤ latest → Judges (Refused (Late latest))
    judged_late b vs l = ap (λ n. Refused (Late n)) late ∙ say_late (stored s) t (paired os vs) (omega arith)

    module _ (b : latest < t) {n : ℕ} (e : n ≡ trues (map (new_in (stored s).pending) os)) where
      pub judged_pending : 128 - s.heads.pending < n → Judges (Refused PendingFull)
      judged_pending f vs l = say_pending (stored s) t (paired os vs) (omega arith) (omega arith) (omega (arith, more_pending d vs l))

      module _ (f : n ≤ 128 - s.heads.pending) (c : Counted s.heads) {m : ℕ} (k : m ≡ trues (map (displaces_in (live_in (stored s)) t (stored s).pending) os)) where
        pub judged_past : 256 - s.heads.past < m → Judges (Refused PastFull)
        judged_past g vs l = say_past (stored s) t (paired os vs) (omega arith) (omega arith) (omega (arith, more_pending d vs l)) (omega (arith, more_past d vs l))

        pub judged_accepted : m ≤ 256 - s.heads.past → Judges Accepted
        judged_accepted g vs l = say_accepted (stored s) t (paired os vs) (omega arith) (omega arith) (omega (arith, more_pending d vs l)) (omega (arith, more_past d vs l))

-- where there is room
module _ (s : whole.Store) (t : ℕ) {latest : ℕ} (late : latest ≡ max s.heads.last s.heads.horizon) where
  abbrev JudgesRoomy : Verdict → Type 0
  JudgesRoomy v = (ws : List Write) → Room (commit_store (stored s) t ws) → v ≡ judge_commit (stored s) t ws

  pub roomy_late : t ≤ latest → JudgesRoomy (Refused (Late latest))
  roomy_late b ws m = ap (λ n. Refused (Late n)) late ∙ say_late (stored s) t ws (omega arith)

  pub roomy_accepted : latest < t → JudgesRoomy Accepted
  roomy_accepted b ws m = say_accepted (stored s) t ws (omega arith) (omega arith) m.pending_room m.past_room

-- a commit of so many writes fits, whatever they add: each adds one entry and one past value at most
pub roomy_room : (s : whole.Store) (t : ℕ) (os vs : List ℕ) → twice_b os ≡ false → length vs ≡ length os
    → both (leb (s.heads.pending + length os) 128) (leb (s.heads.past + length os) 256) ≡ true → Room (commit_store (stored s) t (paired os vs))
unfolding last_at
roomy_room s t os vs d l e =
    let st = stored s in
    let p = leb-true (s.heads.pending + length os) 128 (both_left (leb (s.heads.pending + length os) 128) (leb (s.heads.past + length os) 256) e) in
    let q = leb-true (s.heads.past + length os) 256 (both_right (leb (s.heads.pending + length os) 128) (leb (s.heads.past + length os) 256) e) in
    let n = trues_few (new_in st.pending) os in
    let o = trues_few (displaces_in (live_in (last_at st t)) t st.pending) os in
    let a = up_to_length (pending_of []) s.heads.pending (pendings s.written.pending) in
    let b = up_to_length (past_of []) s.heads.past (pasts s.written.past) in
    record {
      pending_room = omega (arith, pending_growth t os vs (last_at st t) l d);
      past_room = omega (arith, past_growth t os vs (last_at st t) l d);
    }

-- ---- what a verdict tells
abbrev Told : Store → ℕ → List Write → Verdict → Type 0
Told st t ws Accepted = Room (commit_store st t ws)
Told st t ws Idle = ⊥
Told st t ws (Refused a) = code_of a ≡ 0 → ⊥

pick_all : {A : Type 0} (P : A → Type 0) (b : Bool) {x y : A} → (b ≡ true → P x) → (b ≡ false → P y) → P (pick b x y)
pick_all P true f g = f refl
pick_all P false f g = g refl

module _ (st : Store) (t : ℕ) (ws : List Write) where
  told : Told st t ws (judge_commit st t ws)
  unfolding judge_commit
  told =
      let P = Told st t ws in
      pick_all P (either (leb t st.last) (leb t st.horizon))
      (λ _ z. omega arith)
      (λ _. pick_all P (ltb 128 (length (commit_store st t ws).pending))
      (λ _ z. omega arith)
      (λ p. pick_all P (ltb 256 (length (commit_store st t ws).past))
      (λ _ z. omega arith)
      (λ q. record { pending_room = ltb-false 128 _ p; past_room = ltb-false 256 _ q })))

  pub accepted_room : judge_commit st t ws ≡ Accepted → Room (commit_store st t ws)
  accepted_room e = subst (Told st t ws) e told

  pub refused_code : {a : Answer} → judge_commit st t ws ≡ Refused a → code_of a ≡ 0 → ⊥
  refused_code e = subst (Told st t ws) e told
