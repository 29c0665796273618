-- A whole record that stands at a place: where its bytes lie, what change it says, and that its columns are the journal's.
use Prim.Native.Nat.{ℕ, zero, suc, ◌+◌, ◌*◌, ◌-◌, ◌≤◌, ◌<◌}
use mathlib.Core.Path.{◌≡◌, refl, ap, sym, ◌∙◌, subst}
use mathlib.Core.Bool.{true, false}
use mathlib.Core.List.{List, [], ◌∷◌}
use native.Mathlib.Nat.{suc-mul}
use native.Mathlib.Omega.{arith}
use borrow.Author.Tests.{ltb-true, ltb-false, leb-true, eqb-true, not-true}
use lib.ListN.{length, take, drop, get_or, length-drop}
use lib.Seq.{drop-drop, take-take}
use lib.Dec.{ltb, leb, eqb}
use Rattle.model.specs.Lists.{both, either, empty_b, all_b, twice_b, rising_from}
use Rattle.model.specs.Bytes.{from_be, column}
use Rattle.model.specs.Changes.{Write, Change, commit, gossip, flush, objects_of, paired}
use Rattle.model.specs.Judgement.{well_formed, objects_shaped, stamps_shaped}
use Rattle.model.specs.Records.{length_of, commit_in, gossip_in, flush_in, Decoded, bad, good, checked, decode, Step, end, short, malformed, whole, step_of, sized, step_on, step_at}
use Rattle.journal.specs.Heads.{head_of, head_step}
use Rattle.journal.specs.declared.place.Place.{Place}
use Rattle.journal.specs.declared.walk.CommitHead.{CommitHead}
use Rattle.journal.specs.declared.walk.GossipHead.{GossipHead}
use Rattle.journal.specs.declared.walk.FlushHead.{FlushHead}
use Rattle.journal.specs.declared.walk.Record.{Record}
use Rattle.journal.specs.declared.walk.Record.TheVariants.{Commit, Gossip, Flush}
use Rattle.journal.specs.declared.walk.Step.TheVariants as told
use Rattle.journal.proofs.Walks.{column_length, paired_length, paired_objects}
use Rattle.history.proofs.Laws.{never, both_left, both_right, pick_cases}
use Rattle.restart.specs.Turns.{change_of, change_at, Stands}

-- ---- a column within the first m bytes
take_none : {A : Type 0} (n : ℕ) → [] ≡ take {A = A} n []
take_none zero = refl
take_none (suc n) = refl

drop_take : {A : Type 0} (k m : ℕ) (l : List A) → drop k (take m l) ≡ take (m - k) (drop k l)
drop_take zero m l = let e : m ≡ m - zero = omega arith in ap (λ (n : ℕ). take n l) e
drop_take (suc k) zero l = let e : 0 ≡ 0 - suc k = omega arith in ap (λ (n : ℕ). take n (drop (suc k) l)) e
drop_take (suc k) (suc m) [] = take_none (suc m - suc k)
drop_take (suc k) (suc m) (x ∷ l) = let e : suc m - suc k ≡ m - k = omega arith in drop_take k m l ∙ ap (λ (n : ℕ). take n (drop k l)) (sym e)

column_cut : (w s n m : ℕ) (b : List ℕ) → n * s + w ≤ m + s → column w s n (take m b) ≡ column w s n b
column_cut w s zero m b h = refl
column_cut w s (suc n) m b h =
    let p : suc n * s ≡ n * s + s = suc-mul n s in
    let t : take w (take m b) ≡ take w b = take-take w m b (omega arith) in
    let ih = column_cut w s n (m - s) (drop s b) (omega arith) in
    rw (t, drop_take s m b, ih)

-- a column of a body of m bytes, from its byte k on, is the journal's from the place i on
column_in : (w s n k m : ℕ) (j : List ℕ) (at i : ℕ) → n * s + w ≤ m - k + s → at + 3 + k ≡ i
    → column w s n (drop k (take m (drop (at + 3) j))) ≡ column w s n (drop i j)
column_in w s n k m j at i h e =
    ap (column w s n) (drop_take k m (drop (at + 3) j)) ∙ column_cut w s n (m - k) (drop k (drop (at + 3) j)) h
    ∙ ap (column w s n) (drop-drop k (at + 3) j) ∙ ap (λ (x : ℕ). column w s n (drop x j)) e

-- ---- the step of a whole record, told by its head
pub told_whole : (s : Step) {r : Record} {p : Place} → head_step s ≡ told.Whole r p → (s ≡ whole (change_of s) p.at) × (head_of (change_of s) ≡ r)
told_whole end e = never (cc)
told_whole short e = never (cc)
told_whole (malformed o) e = never (cc)
told_whole (whole c n) {r} {p} e =
    let a : head_of c ≡ r = cc in
    let q : record { at = n } ≡ p = cc in
    (ap (λ (x : Place). whole c x.at) q, a)

pub stands : (j : List ℕ) (at : ℕ) {r : Record} {p : Place} → head_step (step_at j at) ≡ told.Whole r p → Stands j at r
stands j at {r} {p} e = let t = told_whole (step_at j at) e in record { next = p.at; step = t.0; told = t.1 }

-- ---- what a decoder says of the change it found in a body
abbrev In : List ℕ → Change → Type 0
In b (commit t ws) = commit t ws ≡ commit_in b
In b (gossip prev curr stamps) = gossip prev curr stamps ≡ gossip_in b
In b (flush p) = flush p ≡ flush_in b

record Good (n : ℕ) (b : List ℕ) (c : Change) : Type 0 where
  size : length_of c ≡ n
  formed : well_formed c ≡ true
  is : In b c

module _ (n k : ℕ) (b : List ℕ) (c : Change) where
  checked_good : (d : Change) → In b d → checked n d ≡ good c → Good n b c
  checked_good d i e =
      pick_cases (both (eqb (length_of d) n) (well_formed d)) e
      (λ t p.
      let same : d ≡ c = cc in
      subst (Good n b) same
      (record { size = eqb-true _ _ (both_left (eqb (length_of d) n) _ t); formed = both_right (eqb (length_of d) n) _ t; is = i }))
      (λ t p. never (cc))

  decode_good : decode n k b ≡ good c → Good n b c
  unfolding decode
  decode_good e =
      pick_cases (eqb k 1) e (λ _ p. checked_good (commit_in b) refl p)
      (λ _ e. pick_cases (eqb k 2) e (λ _ p. checked_good (gossip_in b) refl p)
      (λ _ e. pick_cases (eqb k 3) e (λ _ p. checked_good (flush_in b) refl p) (λ _ p. never (cc))))

step_of_whole : (d : Decoded) (at m next : ℕ) (c : Change) → step_of d at m ≡ whole c next → (d ≡ good c) × (m ≡ next)
step_of_whole bad at m next c h = never (cc)
step_of_whole (good d) at m next c h = (cc, cc)

-- ---- the record's length, its end and its body, in the journal
abbrev body : List ℕ → ℕ → ℕ → List ℕ
body j at n = take (n - 1) (drop (at + 3) j)

pub record Lies (j : List ℕ) (at next : ℕ) (c : Change) : Type 0 where
  pub inside : at + 2 + length_of c ≤ length j
  pub ends : next ≡ at + 2 + length_of c
  pub formed : well_formed c ≡ true
  pub is : In (body j at (length_of c)) c

body_of : (j : List ℕ) (at n : ℕ) → take (n - 1) (drop 1 (drop 2 (drop at j))) ≡ body j at n
body_of j at n =
    let e : at + 2 + 1 ≡ at + 3 = omega arith in
    ap (take (n - 1)) (ap (drop 1) (drop-drop 2 at j) ∙ drop-drop 1 (at + 2) j ∙ ap (λ (k : ℕ). drop k j) e)

module _ (j : List ℕ) (at next : ℕ) (c : Change) where
  sized_lies : (n : ℕ) → 2 ≤ length (drop at j) → sized n (drop 2 (drop at j)) at ≡ whole c next → Lies j at next c
  sized_lies n l e =
      pick_cases (either (ltb n 2) (ltb 170 n)) e (λ _ p. never (cc))
      (λ r e. pick_cases (ltb (length (drop 2 (drop at j))) n) e (λ _ p. never (cc))
      (λ t e.
      let b = take (n - 1) (drop 1 (drop 2 (drop at j))) in
      let s = step_of_whole (decode n (get_or (drop 2 (drop at j)) 0 0) b) at (at + 2 + n) next c e in
      let g = decode_good n (get_or (drop 2 (drop at j)) 0 0) b c s.0 in
      let there : n ≤ length (drop 2 (drop at j)) = ltb-false _ _ t in
      let i : In (body j at n) c = subst (λ (x : List ℕ). In x c) (body_of j at n) g.is in
      record {
        inside = omega (arith, g.size, length-drop 2 (drop at j), length-drop at j);
        ends = omega (arith, g.size, s.1);
        formed = g.formed;
        is = subst (λ (m : ℕ). In (body j at m) c) (sym g.size) i;
      }))

  pub lies : step_at j at ≡ whole c next → Lies j at next c
  unfolding step_on
  lies e =
      pick_cases (empty_b (drop at j)) e (λ _ p. never (cc))
      (λ _ e. pick_cases (ltb (length (drop at j)) 2) e (λ _ p. never (cc))
      (λ t e. sized_lies (from_be (take 2 (drop at j))) (ltb-false _ _ t) e))

-- ---- a commit by its head
pub record CommitAt (j : List ℕ) (at t n : ℕ) (c : Change) : Type 0 where
  pub inside : at + (12 + 10 * n) ≤ length j
  pub short : n ≤ 16
  pub once : twice_b (column 2 10 n (drop (at + 12) j)) ≡ false
  pub in_range : all_b (λ o. ltb o 512) (column 2 10 n (drop (at + 12) j)) ≡ true
  pub is : c ≡ commit t (paired (column 2 10 n (drop (at + 12) j)) (column 8 10 n (drop (at + 14) j)))

objects_short : (os : List ℕ) → objects_shaped os ≡ true → length os ≤ 16
unfolding objects_shaped
objects_short os h =
    leb-true _ _ (both_right (leb 1 (length os)) _ (both_left (both (leb 1 (length os)) (leb (length os) 16)) _ h))

objects_in : (os : List ℕ) → objects_shaped os ≡ true → all_b (λ o. ltb o 512) os ≡ true
unfolding objects_shaped
objects_in os h = both_right (both (leb 1 (length os)) (leb (length os) 16)) _ h

commit_lies : (j : List ℕ) (at next t : ℕ) (ws : List Write) → Lies j at next (commit t ws) → CommitAt j at t (length ws) (commit t ws)
commit_lies j at next t ws l =
    let n = length ws in
    let b = body j at (10 + 10 * n) in
    let m = get_or b 8 0 in
    let os = column 2 10 m (drop 9 b) in
    let vs = column 8 10 m (drop 11 b) in
    let same : length os ≡ length vs = column_length 2 10 m (drop 9 b) ∙ sym (column_length 8 10 m (drop 11 b)) in
    let w : ws ≡ paired os vs = cc l.is in
    let k : n ≡ m = ap length w ∙ paired_length os vs same ∙ column_length 2 10 m (drop 9 b) in
    let p : os ≡ column 2 10 n (drop (at + 12) j) =
    ap (λ (x : ℕ). column 2 10 x (drop 9 b)) (sym k) ∙ column_in 2 10 n 9 (10 + 10 * n - 1) j at (at + 12) (omega arith) (omega arith) in
    let q : vs ≡ column 8 10 n (drop (at + 14) j) =
    ap (λ (x : ℕ). column 8 10 x (drop 11 b)) (sym k) ∙ column_in 8 10 n 11 (10 + 10 * n - 1) j at (at + 14) (omega arith) (omega arith) in
    let f : objects_of ws ≡ column 2 10 n (drop (at + 12) j) = ap objects_of w ∙ paired_objects os vs same ∙ p in
    let h = both_left (objects_shaped (objects_of ws)) _ l.formed in
    let short = objects_short (objects_of ws) h in
    let i = l.inside in
    record {
      inside = omega arith;
      short = omega (arith, ap length f, column_length 2 10 n (drop (at + 12) j));
      once = sym (ap twice_b f) ∙ not-true (twice_b (objects_of ws)) (both_right (objects_shaped (objects_of ws)) _ l.formed);
      in_range = sym (ap (all_b (λ o. ltb o 512)) f) ∙ objects_in (objects_of ws) h;
      is = ap (commit t) (w ∙ (λ i. paired (p i) (q i)));
    }

pub commit_at : (j : List ℕ) (at next : ℕ) (c : Change) {h : CommitHead} → Lies j at next c → head_of c ≡ Commit h → CommitAt j at h.stamp h.count c
commit_at j at next (commit t ws) {h} l e =
    let q : record { stamp = t; count = length ws } ≡ h = cc in
    subst (λ (x : CommitHead). CommitAt j at x.stamp x.count (commit t ws)) q (commit_lies j at next t ws l)
commit_at j at next (gossip prev curr stamps) l e = never (cc)
commit_at j at next (flush p) l e = never (cc)

-- ---- a gossip message by its head
pub record GossipAt (j : List ℕ) (at prev curr n : ℕ) (c : Change) : Type 0 where
  pub inside : at + (20 + 8 * n) ≤ length j
  pub short : n ≤ 16
  pub rises : rising_from prev (column 8 8 n (drop (at + 20) j)) ≡ true
  pub is : c ≡ gossip prev curr (column 8 8 n (drop (at + 20) j))

stamps_short : (prev curr : ℕ) (stamps : List ℕ) → stamps_shaped prev curr stamps ≡ true → length stamps ≤ 16
unfolding stamps_shaped
stamps_short prev curr stamps h =
    leb-true _ _ (both_left (leb (length stamps) 16) _ (both_left (both (leb (length stamps) 16) (leb prev curr)) _ h))

stamps_rise : (prev curr : ℕ) (stamps : List ℕ) → stamps_shaped prev curr stamps ≡ true → rising_from prev stamps ≡ true
unfolding stamps_shaped
stamps_rise prev curr stamps h =
    both_left (rising_from prev stamps) _ (both_right (both (leb (length stamps) 16) (leb prev curr)) _ h)

gossip_lies : (j : List ℕ) (at next prev curr : ℕ) (stamps : List ℕ) → Lies j at next (gossip prev curr stamps)
    → GossipAt j at prev curr (length stamps) (gossip prev curr stamps)
gossip_lies j at next prev curr stamps l =
    let n = length stamps in
    let b = body j at (18 + 8 * n) in
    let m = get_or b 16 0 in
    let w : stamps ≡ column 8 8 m (drop 17 b) = cc l.is in
    let k : n ≡ m = ap length w ∙ column_length 8 8 m (drop 17 b) in
    let p : column 8 8 m (drop 17 b) ≡ column 8 8 n (drop (at + 20) j) =
    ap (λ (x : ℕ). column 8 8 x (drop 17 b)) (sym k) ∙ column_in 8 8 n 17 (18 + 8 * n - 1) j at (at + 20) (omega arith) (omega arith) in
    let i = l.inside in
    let h = both_left (stamps_shaped prev curr stamps) _ l.formed in
    record {
      inside = omega arith;
      short = stamps_short prev curr stamps h;
      rises = sym (ap (rising_from prev) (w ∙ p)) ∙ stamps_rise prev curr stamps h;
      is = ap (gossip prev curr) (w ∙ p);
    }

pub gossip_at : (j : List ℕ) (at next : ℕ) (c : Change) {h : GossipHead} → Lies j at next c → head_of c ≡ Gossip h
    → GossipAt j at h.prev h.curr h.count c
gossip_at j at next (commit t ws) l e = never (cc)
gossip_at j at next (gossip prev curr stamps) {h} l e =
    let q : record { prev = prev; curr = curr; count = length stamps } ≡ h = cc in
    subst (λ (x : GossipHead). GossipAt j at x.prev x.curr x.count (gossip prev curr stamps)) q (gossip_lies j at next prev curr stamps l)
gossip_at j at next (flush p) l e = never (cc)

-- ---- a flush by its head
pub flush_at : (j : List ℕ) (at next : ℕ) (c : Change) {h : FlushHead} → Lies j at next c → head_of c ≡ Flush h
    → (c ≡ flush h.page) × (h.page < 32)
flush_at j at next (commit t ws) l e = never (cc)
flush_at j at next (gossip prev curr stamps) l e = never (cc)
flush_at j at next (flush p) {h} l e =
    let q : record { page = p } ≡ h = cc in
    subst (λ (x : FlushHead). (flush p ≡ flush x.page) × (x.page < 32)) q (refl, ltb-true p 32 (both_left (ltb p 32) _ l.formed))

-- ---- of a record that stands at a place
module _ (j : List ℕ) (at : ℕ) where
  pub commit_stands : {h : CommitHead} → Stands j at (Commit h) → CommitAt j at h.stamp h.count (change_at j at)
  commit_stands s = commit_at j at s.next (change_at j at) (lies j at s.next (change_at j at) s.step) s.told

  pub gossip_stands : {h : GossipHead} → Stands j at (Gossip h) → GossipAt j at h.prev h.curr h.count (change_at j at)
  gossip_stands s = gossip_at j at s.next (change_at j at) (lies j at s.next (change_at j at) s.step) s.told

  pub flush_stands : {h : FlushHead} → Stands j at (Flush h) → (change_at j at ≡ flush h.page) × (h.page < 32)
  flush_stands s = flush_at j at s.next (change_at j at) (lies j at s.next (change_at j at) s.step) s.told
