-- The model's `hear` is the gossip that bytes with a frame and shaped stamps tell; other bytes are unheard.
use Prim.Native.Nat.{ℕ, ◌+◌, ◌*◌, ◌-◌, ◌≤◌, ◌<◌}
use mathlib.Core.Path.{◌≡◌, refl, ap, sym, ◌∙◌, subst}
use mathlib.Core.Bool.{Bool, true, false}
use mathlib.Core.List.{List, [], ◌∷◌, ◌++◌}
use native.Mathlib.Omega.{arith}
use lib.ListN.{length, take, drop, get_or, length-append, length-drop}
use lib.Seq.{drop-drop, get_or-drop, get_or-take, length-take-le, take_all, take_at}
use lib.Dec.{ltb, leb, eqb}
use borrow.Author.Tests.{leb-true, eqb-true, le-leb, lt-leb, le-ltb, eq-eqb, ne_eqb}
use Rattle.model.specs.declared.Answer.{Answer}
use Rattle.model.specs.declared.Answer.TheVariants.{Damaged, Malformed}
use Rattle.model.specs.Lists.{both, either, pick, empty_b}
use Rattle.model.specs.Bytes.{from_be, column}
use Rattle.model.specs.Store.{Store}
use Rattle.model.specs.Damage.{damaged}
use Rattle.model.specs.Changes.{gossip}
use Rattle.model.specs.Judgement.{stamps_shaped, well_formed}
use Rattle.model.specs.Records.{length_of, commit_in, gossip_in, flush_in, Decoded, bad, good, checked, decode, Step, malformed, whole, step_of, step_on}
use Rattle.model.specs.Calls.{gossip_call}
use Rattle.model.specs.Exchange.{heard_step, unheard, hear}
use Rattle.journal.specs.declared.walk.GossipHead.{GossipHead}
use Rattle.journal.proofs.Walks.{column_length}
use Rattle.changes.specs.Left.{Left}
use Rattle.changes.proofs.Shapes.{stamps_short}
use Rattle.changes.proofs.Outcomes as changes
use Rattle.history.proofs.Laws.{by_test, clash, both_left, both_right, pick_all}
use Rattle.exchange.specs.Messages.{framed_b, Spoken}

-- ---- tests
none_both : (b : Bool) → both b false ≡ false
none_both true = refl
none_both false = refl

both_true : (b : Bool) → both b true ≡ b
both_true true = refl
both_true false = refl

same : {A : Type 0} (b : Bool) (x : A) → pick b x x ≡ x
same true x = refl
same false x = refl

-- ---- a frame, test by test as the code goes through them
module _ (bytes : List ℕ) where
  pub too_short : length bytes < 20 → false ≡ framed_b bytes
  unfolding framed_b
  too_short h = rw (lt-leb 20 (length bytes) h)

  pub other_length : (from_be (take 2 bytes) ≡ length bytes - 2 → ⊥) → false ≡ framed_b bytes
  unfolding framed_b
  other_length h = rw (ne_eqb (from_be (take 2 bytes)) (length bytes - 2) h, none_both)

  pub other_kind : (get_or bytes 2 0 ≡ 2 → ⊥) → false ≡ framed_b bytes
  unfolding framed_b
  other_kind h = rw (ne_eqb (get_or bytes 2 0) 2 h, none_both, none_both)

  pub too_many : 16 < get_or bytes 19 0 → false ≡ framed_b bytes
  unfolding framed_b
  too_many h = rw (lt-leb (get_or bytes 19 0) 16 h, none_both, none_both, none_both)

  pub by_size : 20 ≤ length bytes → from_be (take 2 bytes) ≡ length bytes - 2 → get_or bytes 2 0 ≡ 2 → get_or bytes 19 0 ≤ 16
      → eqb (length bytes) (20 + 8 * get_or bytes 19 0) ≡ framed_b bytes
  unfolding framed_b
  by_size a b c d =
      rw (le-leb 20 (length bytes) a, eq-eqb (from_be (take 2 bytes)) (length bytes - 2) b, eq-eqb (get_or bytes 2 0) 2 c, le-leb (get_or bytes 19 0) 16 d)

  pub record Frame : Type 0 where
    pub long : 20 ≤ length bytes
    pub sizes : from_be (take 2 bytes) ≡ length bytes - 2
    pub kind : get_or bytes 2 0 ≡ 2
    pub few : get_or bytes 19 0 ≤ 16
    pub ends : length bytes ≡ 20 + 8 * get_or bytes 19 0

  pub frame : framed_b bytes ≡ true → Frame
  unfolding framed_b
  frame h =
      let a = both_right (leb 20 (length bytes)) _ h in
      let b = both_right (eqb (from_be (take 2 bytes)) (length bytes - 2)) _ a in
      let c = both_right (eqb (get_or bytes 2 0) 2) _ b in
      record {
        long = leb-true _ _ (both_left (leb 20 (length bytes)) _ h);
        sizes = eqb-true _ _ (both_left (eqb (from_be (take 2 bytes)) (length bytes - 2)) _ a);
        kind = eqb-true _ _ (both_left (eqb (get_or bytes 2 0) 2) _ b);
        few = leb-true _ _ (both_left (leb (get_or bytes 19 0) 16) _ c);
        ends = eqb-true _ _ (both_right (leb (get_or bytes 19 0) 16) _ c);
      }

-- ---- what the code reads of bytes with a frame
module _ (bytes room : List ℕ) (n : length room ≡ 16) (t : framed_b bytes ≡ true) where
  pub told_all : {p c : ℕ} {col : List ℕ} → p ≡ from_be (take 8 (drop 3 bytes)) → c ≡ from_be (take 8 (drop 11 bytes))
      → col ≡ column 8 8 (length (take (get_or bytes 19 0) room)) (drop 20 bytes)
      → Spoken bytes (record { prev = p; curr = c; count = get_or bytes 19 0 }) (col ++ drop (get_or bytes 19 0) room)
  told_all {p} {c} {col} e f g =
      let k = get_or bytes 19 0 in
      let few : k ≤ length room = omega (arith, (frame bytes t).few) in
      let i : col ≡ column 8 8 k (drop 20 bytes) = g ∙ ap (λ (m : ℕ). column 8 8 m (drop 20 bytes)) (length-take-le k room few) in
      let l : length col ≡ k = ap length i ∙ column_length 8 8 k (drop 20 bytes) in
      record {
        told = rw (e, f);
        fits = simp length-append (omega arith);
        holds = take_at col (drop k room) k l ∙ i;
      }

-- ---- what the model's reader finds in bytes with such a frame: the gossip that they tell, where its stamps are shaped
module _ (bytes : List ℕ) where
  abbrev size : ℕ
  size = from_be (take 2 bytes)

  abbrev body : List ℕ
  body = take (size - 1) (drop 1 (drop 2 bytes))

  abbrev prev : ℕ
  prev = from_be (take 8 (drop 3 bytes))

  abbrev curr : ℕ
  curr = from_be (take 8 (drop 11 bytes))

  abbrev stamps : List ℕ
  stamps = column 8 8 (get_or bytes 19 0) (drop 20 bytes)

  said : gossip_in (drop 3 bytes) ≡ gossip prev curr stamps
  said = rw (drop-drop 8 3 bytes, drop-drop 17 3 bytes, get_or-drop 3 bytes 16 0)

  module _ (f : Frame bytes) where
    body_is : body ≡ drop 3 bytes
    body_is =
        let l : length (drop 3 bytes) ≤ size - 1 = omega (arith, length-drop 3 bytes, f.sizes) in
        rw (drop-drop 1 2 bytes, take_all (size - 1) (drop 3 bytes) l)

    judged : checked size (gossip prev curr stamps) ≡ pick (stamps_shaped prev curr stamps) (good (gossip prev curr stamps)) bad
    judged =
        let l : length_of (gossip prev curr stamps) ≡ size = omega (arith, column_length 8 8 (get_or bytes 19 0) (drop 20 bytes), f.sizes, f.ends) in
        rw (eq-eqb (length_of (gossip prev curr stamps)) size l, both_true (stamps_shaped prev curr stamps))

    kind_is : get_or (drop 2 bytes) 0 0 ≡ 2
    kind_is = get_or-drop 2 bytes 0 0 ∙ f.kind

    filled : (l : List ℕ) → 20 ≤ length l → empty_b l ≡ false
    filled [] h = absurd (omega arith)
    filled (x ∷ l) h = refl

    stepped : step_on bytes 0 ≡ step_of (checked size (gossip_in body)) 0 (length bytes)
    unfolding step_on decode
    stepped =
        let a : 2 ≤ length bytes = omega (arith, f.long) in
        let b : 2 ≤ size = omega (arith, f.long, f.sizes) in
        let c : size ≤ 170 = omega (arith, f.sizes, f.ends, f.few) in
        let d : size ≤ length (drop 2 bytes) = omega (arith, length-drop 2 bytes, f.sizes) in
        let e : 2 + size ≡ length bytes = omega (arith, f.long, f.sizes) in
        rw (filled bytes f.long, le-ltb (length bytes) 2 a, le-ltb size 2 b, le-ltb 170 size c, le-ltb (length (drop 2 bytes)) size d, kind_is, e)

    found : step_on bytes 0 ≡ pick (stamps_shaped prev curr stamps) (whole (gossip prev curr stamps) (length bytes)) (malformed 0)
    found =
        stepped ∙ ap (λ (d : Decoded). step_of d 0 (length bytes)) (ap (λ (b : List ℕ). checked size (gossip_in b)) body_is ∙ ap (checked size) said ∙ judged)
        ∙ told (stamps_shaped prev curr stamps)
      where
        told : (b : Bool) → step_of (pick b (good (gossip prev curr stamps)) bad) 0 (length bytes) ≡ pick b (whole (gossip prev curr stamps) (length bytes)) (malformed 0)
        told true = refl
        told false = refl

-- ---- in other bytes it finds no gossip up to their end
module _ (bytes : List ℕ) where
  -- a whole gossip up to the end has a frame
  whole_framed : get_or (drop 2 bytes) 0 0 ≡ 2 → length_of (gossip_in (body bytes)) ≡ size bytes → well_formed (gossip_in (body bytes)) ≡ true → 2 + size bytes ≡ length bytes
      → framed_b bytes ≡ true
  whole_framed k l w e =
      let n = get_or (body bytes) 16 0 in
      let ss = column 8 8 n (drop 17 (body bytes)) in
      let c : length ss ≡ n = column_length 8 8 n (drop 17 (body bytes)) in
      let m : 16 < size bytes - 1 = omega arith in
      let i : n ≡ get_or bytes 19 0 = get_or-take (size bytes - 1) (drop 1 (drop 2 bytes)) 16 0 m ∙ ap (λ (r : List ℕ). get_or r 16 0) (drop-drop 1 2 bytes) ∙ get_or-drop 3 bytes 16 0 in
      let s : length ss ≤ 16 = stamps_short (from_be (take 8 (body bytes))) (from_be (take 8 (drop 8 (body bytes)))) ss (both_left (stamps_shaped (from_be (take 8 (body bytes))) (from_be (take 8 (drop 8 (body bytes)))) ss) _ w) in
      sym (by_size bytes (omega arith) (omega arith) (sym (get_or-drop 2 bytes 0 0) ∙ k) (omega arith)) ∙ eq-eqb (length bytes) (20 + 8 * get_or bytes 19 0) (omega arith)

  module _ (u : framed_b bytes ≡ false) (st : Store) (j : List ℕ) (used : ℕ) where
    abbrev Unheard : Step → Type 0
    Unheard s = heard_step s (length bytes) st j used ≡ unheard st j used

    abbrev Undone : Decoded → Type 0
    Undone d = Unheard (step_of d 0 (2 + size bytes))

    no_gossip : get_or (drop 2 bytes) 0 0 ≡ 2 → both (eqb (length_of (gossip_in (body bytes))) (size bytes)) (well_formed (gossip_in (body bytes))) ≡ true → Undone (good (gossip_in (body bytes)))
    no_gossip k w =
        by_test (eqb (2 + size bytes) (length bytes))
        (λ e.
        clash (framed_b bytes)
        (whole_framed k (eqb-true _ _ (both_left (eqb (length_of (gossip_in (body bytes))) (size bytes)) _ w)) (both_right (eqb (length_of (gossip_in (body bytes))) (size bytes)) _ w) (eqb-true _ _ e)) u)
        (λ e. rw e)

    decoded : Undone (decode (size bytes) (get_or (drop 2 bytes) 0 0) (body bytes))
    unfolding decode
    decoded =
        let n = size bytes in
        let k = get_or (drop 2 bytes) 0 0 in
        let b = body bytes in
        pick_all Undone (eqb k 1)
        (λ _. pick_all Undone (both (eqb (length_of (commit_in b)) n) (well_formed (commit_in b))) (λ _. same (eqb (2 + n) (length bytes)) (unheard st j used)) (λ _. refl))
        (λ _.
        pick_all Undone (eqb k 2)
        (λ e. pick_all Undone (both (eqb (length_of (gossip_in b)) n) (well_formed (gossip_in b))) (λ w. no_gossip (eqb-true _ _ e) w) (λ _. refl))
        (λ _.
        pick_all Undone (eqb k 3)
        (λ _. pick_all Undone (both (eqb (length_of (flush_in b)) n) (well_formed (flush_in b))) (λ _. same (eqb (2 + n) (length bytes)) (unheard st j used)) (λ _. refl))
        (λ _. refl)))

    pub unspoken : hear st j used bytes ≡ unheard st j used
    unfolding hear step_on
    unspoken =
        pick_all Unheard (empty_b bytes) (λ _. refl)
        (λ _.
        pick_all Unheard (ltb (length bytes) 2) (λ _. refl)
        (λ _.
        pick_all Unheard (either (ltb (size bytes) 2) (ltb 170 (size bytes))) (λ _. refl)
        (λ _. pick_all Unheard (ltb (length (drop 2 bytes)) (size bytes)) (λ _. refl) (λ _. decoded))))

-- ---- what is left, by the test that settles it
left_unheard : (st : Store) (j : List ℕ) (used : ℕ) → damaged st ≡ false → Left (unheard st j used) (Malformed 0) st j used
left_unheard st j used w = rw w (record { answered = refl; contains = refl; journal_is = refl; place_is = refl })

left_damaged : (st : Store) (j : List ℕ) (used : ℕ) → damaged st ≡ true → Left (unheard st j used) Damaged st j used
left_damaged st j used d = rw d (record { answered = refl; contains = refl; journal_is = refl; place_is = refl })

module _ (bytes : List ℕ) (st : Store) (j : List ℕ) (used : ℕ) where
  -- with a frame the stamps decide
  by_stamps : framed_b bytes ≡ true → (b : Bool) → stamps_shaped (prev bytes) (curr bytes) (stamps bytes) ≡ b
      → hear st j used bytes ≡ pick b (gossip_call st j used (prev bytes) (curr bytes) (stamps bytes)) (unheard st j used)
  unfolding hear
  by_stamps t b e =
      let p = prev bytes in
      let c = curr bytes in
      let ss = stamps bytes in
      ap (λ (s : Step). heard_step s (length bytes) st j used) (found bytes (frame bytes t) ∙ ap (λ (b : Bool). pick b (whole (gossip p c ss) (length bytes)) (malformed 0)) e) ∙ chosen b
    where
      chosen : (b : Bool) → heard_step (pick b (whole (gossip (prev bytes) (curr bytes) (stamps bytes)) (length bytes)) (malformed 0)) (length bytes) st j used
          ≡ pick b (gossip_call st j used (prev bytes) (curr bytes) (stamps bytes)) (unheard st j used)
      chosen true = rw (eq-eqb (length bytes) (length bytes) refl)
      chosen false = refl

  pub deaf : damaged st ≡ true → Left (hear st j used bytes) Damaged st j used
  deaf d =
      by_test (framed_b bytes)
      (λ t.
      by_test (stamps_shaped (prev bytes) (curr bytes) (stamps bytes))
      (λ h. rw (by_stamps t true h) (changes.left_damaged st j used true (gossip (prev bytes) (curr bytes) (stamps bytes)) d))
      (λ h. rw (by_stamps t false h) (left_damaged st j used d)))
      (λ u. rw (unspoken bytes u st j used) (left_damaged st j used d))

  module _ (w : damaged st ≡ false) where
    pub unframed : framed_b bytes ≡ false → Left (hear st j used bytes) (Malformed 0) st j used
    unframed u = rw (unspoken bytes u st j used) (left_unheard st j used w)

    module _ (t : framed_b bytes ≡ true) {h : GossipHead} {room : List ℕ} (s : Spoken bytes h room) where
      abbrev Told : GossipHead → List ℕ → Bool → Type 0
      Told h ss b = stamps_shaped h.prev h.curr ss ≡ b → hear st j used bytes ≡ pick b (gossip_call st j used h.prev h.curr ss) (unheard st j used)

      by_read : (b : Bool) → Told h (take h.count room) b
      by_read b =
          let e : Told h (column 8 8 h.count (drop 20 bytes)) b = subst (λ (h : GossipHead). Told h (column 8 8 h.count (drop 20 bytes)) b) (sym s.told) (by_stamps t b) in
          rw s.holds e

      pub unshaped : stamps_shaped h.prev h.curr (take h.count room) ≡ false → Left (hear st j used bytes) (Malformed 0) st j used
      unshaped e = rw (by_read false e) (left_unheard st j used w)

      -- and where they are shaped, hearing is gossip
      pub as_gossip : stamps_shaped h.prev h.curr (take h.count room) ≡ true → {a : Answer} {st' : Store} {j' : List ℕ} {n : ℕ}
          → Left (gossip_call st j used h.prev h.curr (take h.count room)) a st' j' n → Left (hear st j used bytes) a st' j' n
      as_gossip e l = rw (by_read true e) l
