-- What a judge's yes says of a change.
use Prim.Native.Nat.{ℕ, ◌≤◌, ◌<◌, min}
use mathlib.Core.Path.{◌≡◌, refl}
use mathlib.Core.Bool.{Bool, true, false}
use mathlib.Core.List.{List, [], ◌∷◌}
use native.Mathlib.Omega.{arith}
use lib.ListN.{length}
use lib.Dec.{ltb, leb, eqb}
use borrow.Author.Tests.{ltb-true, ltb-false, leb-true, leb-false, eqb-true}
use Rattle.model.specs.declared.Answer.{Answer}
use Rattle.model.specs.declared.Verdict.{Verdict}
use Rattle.model.specs.declared.Verdict.TheVariants.{Accepted, Idle, Refused}
use Rattle.model.specs.Lists.{both, either, pick, all_b, kept, empty_b, rising_from}
use Rattle.model.specs.Store.{Store}
use Rattle.model.specs.Changes.{Write, objects_of, commit, gossip, flush, commit_store, gossip_store, dues, of_page, flush_store}
use Rattle.model.specs.Judgement.{objects_shaped, stamps_shaped, well_formed, judge_commit, Compared, same, differ, compared, against, agreed, judge_gossip, judge_flush, judge}
use Rattle.history.proofs.Laws.{by_test, both_left, both_right, split, either_none}
use Rattle.history.specs.Words.{All}
use Rattle.history.proofs.Lists.{Rising, all_map, all_both, all_true, rising_true}

-- ---- a test passed on the way to yes
passed : (b : Bool) (a : Answer) (v : Verdict) → pick b (Refused a) v ≡ Accepted → (b ≡ false) × (v ≡ Accepted)
passed true a v h = let z : ◌≡◌ {A = ℕ} 0 1 = cc in absurd (omega arith)
passed false a v h = (refl, h)

busy : (b : Bool) (v : Verdict) → pick b Idle v ≡ Accepted → (b ≡ false) × (v ≡ Accepted)
busy true v h = let z : ◌≡◌ {A = ℕ} 0 1 = cc in absurd (omega arith)
busy false v h = (refl, h)

agreeing : (x : Compared) (v : Verdict) → agreed x v ≡ Accepted → (x ≡ same) × (v ≡ Accepted)
agreeing same v h = (refl, h)
agreeing (differ s) v h = let z : ◌≡◌ {A = ℕ} 0 1 = cc in absurd (omega arith)

-- ---- a commit
pub record CommitOk (st : Store) (t : ℕ) (ws : List Write) : Type 0 where
  pub objects : All (λ w. w.object < 512) ws
  pub after_last : st.last < t
  pub after_horizon : st.horizon < t
  pub pending_room : length (commit_store st t ws).pending ≤ 128
  pub past_room : length (commit_store st t ws).past ≤ 256

objects_true : (ws : List Write) → all_b (λ o. ltb o 512) (objects_of ws) ≡ true → All (λ w. w.object < 512) ws
objects_true [] h = tt
objects_true (w ∷ ws) h =
    let z = split (ltb w.object 512) (all_b (λ o. ltb o 512) (objects_of ws)) h in
    (ltb-true w.object 512 z.0, objects_true ws z.1)

pub commit_ok : (st : Store) (t : ℕ) (ws : List Write) → well_formed (commit t ws) ≡ true → judge st (commit t ws) ≡ Accepted → CommitOk st t ws
unfolding objects_shaped judge_commit
commit_ok st t ws w j =
    let a = passed (either (leb t st.last) (leb t st.horizon)) _ _ j in
    let b = passed (ltb 128 (length (commit_store st t ws).pending)) _ _ a.1 in
    let c = passed (ltb 256 (length (commit_store st t ws).past)) _ _ b.1 in
    let l = either_none (leb t st.last) (leb t st.horizon) a.0 in
    record {
      objects =
          objects_true ws
          (both_right (both (leb 1 (length (objects_of ws))) (leb (length (objects_of ws)) 16)) _ (both_left (objects_shaped (objects_of ws)) _ w));
      after_last = leb-false t st.last l.0;
      after_horizon = leb-false t st.horizon l.1;
      pending_room = ltb-false 128 (length (commit_store st t ws).pending) b.0;
      past_room = ltb-false 256 (length (commit_store st t ws).past) c.0;
    }

-- ---- a gossip message
pub record GossipOk (st : Store) (prev curr : ℕ) (stamps : List ℕ) : Type 0 where
  pub rising : Rising stamps
  pub bounds : All (λ s. (prev < s) × (s ≤ curr)) stamps
  pub no_gap : prev ≤ st.horizon
  pub new : st.horizon < curr
  pub agrees : kept (λ s. leb s st.horizon) stamps ≡ kept (λ s. both (ltb prev s) (leb s st.horizon)) st.snapshots
  pub snapshot_room : length (gossip_store st curr stamps).snapshots ≤ 64

same_true : (l m : List ℕ) → compared l m ≡ same → l ≡ m
same_true [] [] h = refl
same_true [] (y ∷ ys) h = let z : ◌≡◌ {A = ℕ} 0 1 = cc in absurd (omega arith)
same_true (x ∷ xs) [] h = let z : ◌≡◌ {A = ℕ} 0 1 = cc in absurd (omega arith)
same_true (x ∷ xs) (y ∷ ys) h =
    by_test (eqb x y)
    (λ e. let p = eqb-true x y e in let q = same_true xs ys (rw e at h) in cc)
    (λ e. let d : differ (min x y) ≡ same = rw e at h in let z : ◌≡◌ {A = ℕ} 0 1 = cc in absurd (omega arith))

pub gossip_ok : (st : Store) (prev curr : ℕ) (stamps : List ℕ) → well_formed (gossip prev curr stamps) ≡ true
    → judge st (gossip prev curr stamps) ≡ Accepted → GossipOk st prev curr stamps
unfolding stamps_shaped judge_gossip against
gossip_ok st prev curr stamps w j =
    let a = passed (ltb st.horizon prev) _ _ j in
    let b = agreeing (against st prev curr stamps) _ a.1 in
    let c = busy (leb curr st.horizon) _ b.1 in
    let d = passed (ltb 64 (length (gossip_store st curr stamps).snapshots)) _ _ c.1 in
    let new = leb-false curr st.horizon c.0 in
    let s = both_right (both (leb (length stamps) 16) (leb prev curr)) _ (both_left (stamps_shaped prev curr stamps) _ w) in
    let r = rising_true prev stamps (both_left (rising_from prev stamps) _ s) in
    let upto : min curr st.horizon ≡ st.horizon = omega arith in
    record {
      rising = r.1;
      bounds =
          all_both (λ s. prev < s) (λ s. s ≤ curr) stamps r.0
          (all_map (λ s (e : leb s curr ≡ true). leb-true s curr e) stamps
          (all_true (λ s. leb s curr) stamps (both_right (rising_from prev stamps) (all_b (λ s. leb s curr) stamps) s)));
      no_gap = ltb-false st.horizon prev a.0;
      new = new;
      agrees =
          rw upto at
          (same_true (kept (λ s. leb s (min curr st.horizon)) stamps)
          (kept (λ s. both (ltb prev s) (leb s (min curr st.horizon))) st.snapshots) b.0);
      snapshot_room = ltb-false 64 (length (gossip_store st curr stamps).snapshots) d.0;
    }

-- ---- a flush
pub record FlushOk (st : Store) (p : ℕ) : Type 0 where
  pub page : p < 32
  pub copy_room : length (flush_store st p).copies ≤ 128
  pub past_room : length (flush_store st p).past ≤ 256

pub flush_ok : (st : Store) (p : ℕ) → well_formed (flush p) ≡ true → judge st (flush p) ≡ Accepted → FlushOk st p
unfolding judge_flush
flush_ok st p w j =
    let a = busy (both (empty_b (kept (of_page p) st.pending)) (empty_b (dues st p st.snapshots))) _ j in
    let b = passed (ltb 128 (length (flush_store st p).copies)) _ _ a.1 in
    let c = passed (ltb 256 (length (flush_store st p).past)) _ _ b.1 in
    record {
      page = ltb-true p 32 (both_left (ltb p 32) _ w);
      copy_room = ltb-false 128 (length (flush_store st p).copies) b.0;
      past_room = ltb-false 256 (length (flush_store st p).past) c.0;
    }
