-- A record's bytes say the change, and only they do: what is written is read, what is read was written so, and a part of it is short.
use Prim.Native.Nat.{ℕ, zero, suc, ◌+◌, ◌*◌, ◌%◌, ◌-◌, ◌^◌, ◌<◌, ◌≤◌}
use mathlib.Core.Path.{◌≡◌, refl, ap, sym, ◌∙◌, subst}
use mathlib.Core.Bool.{true, false}
use mathlib.Core.List.{List, [], ◌∷◌, ◌++◌, map}
use native.Mathlib.Nat.{suc_inj}
use native.Mathlib.Omega.{arith}
use borrow.Author.Tests.{ltb-true, ltb-false, leb-true, eqb-true, lt-ltb, le-ltb, eq-eqb}
use lib.ListN.{length, take, drop, get_or, length-append, length-take, length-drop, length-map, take-append-drop}
use lib.Seq.{take_at, drop_at, take-append_seam, drop-append_seam, drop-cons, drop-drop, take-add, length-take-le}
use lib.Dec.{ltb, leb, eqb, lit<}
use Rattle.model.specs.Lists.{both, either, pick, empty_b}
use Rattle.model.specs.Bytes.{be, from_be, column, write_at}
use Rattle.model.specs.Changes.{Write, Change, commit, gossip, flush, objects_of, paired}
use Rattle.model.specs.Judgement.{objects_shaped, stamps_shaped, well_formed}
use Rattle.model.specs.Records.{length_of, write_bytes, stamp_bytes, body_of, kind_of, encode, commit_in, gossip_in, flush_in, Decoded, bad, good, checked, decode, end, short, whole, step_of, sized, step_on, step_at}
use Rattle.model.specs.Calls.{appended, written, reached}
use Rattle.history.specs.Words.{Below, Bytes, Words, Begins, Only}
use Rattle.history.proofs.Laws.{never, both_left, both_right, either_none, pick_cases}
use Rattle.history.proofs.Lists.{all_map, all_get_d, all_true}
use Rattle.history.proofs.Bytes.{below_take, below_drop, be_bytes, bytes_then, be_one, round_trip, back_take, bound_take, column_length, column_below}

-- ---- lengths
write_length : (ws : List Write) → length (write_bytes ws) ≡ 10 * length ws
write_length [] = refl
write_length (w ∷ ws) = omega (arith, write_length ws)

pub stamp_length : (ss : List ℕ) → length (stamp_bytes ss) ≡ 8 * length ss
stamp_length [] = refl
stamp_length (s ∷ ss) = omega (arith, stamp_length ss)

body_length : (c : Change) → suc (length (body_of c)) ≡ length_of c
body_length (commit t ws) = omega (arith, write_length ws)
body_length (gossip prev curr stamps) = omega (arith, stamp_length stamps)
body_length (flush p) = refl

kind_byte : (c : Change) → be 1 (kind_of c) ≡ kind_of c ∷ []
kind_byte (commit t ws) = refl
kind_byte (gossip prev curr stamps) = refl
kind_byte (flush p) = refl

pub encode_length : (c : Change) → length (encode c) ≡ 2 + length_of c
unfolding encode
encode_length c = omega (arith, body_length c)

-- ---- every one of them is a byte
write_bytes_lem : (ws : List Write) → Bytes (write_bytes ws)
write_bytes_lem [] = tt
write_bytes_lem (w ∷ ws) = bytes_then 2 w.object (be 8 w.value ++ write_bytes ws) (bytes_then 8 w.value (write_bytes ws) (write_bytes_lem ws))

pub stamp_bytes_lem : (ss : List ℕ) → Bytes (stamp_bytes ss)
stamp_bytes_lem [] = tt
stamp_bytes_lem (s ∷ ss) = bytes_then 8 s (stamp_bytes ss) (stamp_bytes_lem ss)

body_bytes : (c : Change) → Bytes (body_of c)
body_bytes (commit t ws) =
    let n = length ws in bytes_then 8 t (be 1 n ++ write_bytes ws) (bytes_then 1 n (write_bytes ws) (write_bytes_lem ws))
body_bytes (gossip prev curr stamps) =
    let n = length stamps in
    let b = be 1 n ++ stamp_bytes stamps in
    bytes_then 8 prev (be 8 curr ++ b) (bytes_then 8 curr b (bytes_then 1 n (stamp_bytes stamps) (stamp_bytes_lem stamps)))
body_bytes (flush p) = be_bytes 1 p

pub encode_bytes : (c : Change) → Bytes (encode c)
unfolding encode
encode_bytes c =
    bytes_then 2 (length_of c) (be 1 (kind_of c) ++ body_of c) (bytes_then 1 (kind_of c) (body_of c) (body_bytes c))

-- ---- what a well-formed change is bounded by
writes_shaped : (os : List ℕ) → objects_shaped os ≡ true → (length os ≤ 16) × Below 65536 os
unfolding objects_shaped
writes_shaped os h =
    let few = both (leb 1 (length os)) (leb (length os) 16) in
    let n = both_right (leb 1 (length os)) _ (both_left few _ h) in
    (leb-true _ _ n, all_map (λ o (e : ltb o 512 ≡ true). omega (arith, ltb-true o 512 e)) os (all_true (λ o. ltb o 512) os (both_right few _ h)))

commit_shaped : (t : ℕ) (ws : List Write) → well_formed (commit t ws) ≡ true → (length ws ≤ 16) × Below 65536 (objects_of ws)
commit_shaped t ws h =
    let s = writes_shaped (objects_of ws) (both_left (objects_shaped (objects_of ws)) _ h) in
    (subst (λ (n : ℕ). n ≤ 16) (length-map ws (λ w. w.object)) s.0, s.1)

gossip_shaped : (prev curr : ℕ) (stamps : List ℕ) → well_formed (gossip prev curr stamps) ≡ true → length stamps ≤ 16
unfolding stamps_shaped
gossip_shaped prev curr stamps h =
    let s = both_left (stamps_shaped prev curr stamps) _ h in
    leb-true _ _ (both_left (leb (length stamps) 16) _ (both_left (both (leb (length stamps) 16) (leb prev curr)) _ s))

length_range : (c : Change) → well_formed c ≡ true → (2 ≤ length_of c) × (length_of c ≤ 170)
length_range (commit t ws) h = let l = (commit_shaped t ws h).0 in (omega arith, omega arith)
length_range (gossip prev curr stamps) h = let l = gossip_shaped prev curr stamps h in (omega arith, omega arith)
length_range (flush p) h = (omega arith, omega arith)

-- ---- a body is read as it was written
writes_back : (ws : List Write) → Below 65536 (objects_of ws) → Below (2 ^ 64) (map (λ w. w.value) ws)
    → paired (column 2 10 (length ws) (write_bytes ws)) (column 8 10 (length ws) (drop 2 (write_bytes ws))) ≡ ws
writes_back [] h k = refl
writes_back (w ∷ ws) h k =
    let o = round_trip 2 w.object h.0 in
    let v = round_trip 8 w.value k.0 in
    let ih = writes_back ws h.1 k.1 in
    λ i. record { object = o i; value = v i } ∷ ih i

pub stamps_back : (ss : List ℕ) → Below (2 ^ 64) ss → column 8 8 (length ss) (stamp_bytes ss) ≡ ss
stamps_back [] h = refl
stamps_back (s ∷ ss) h =
    let e = round_trip 8 s h.0 in
    let ih = stamps_back ss h.1 in
    λ i. e i ∷ ih i

commit_back : (t : ℕ) (ws : List Write) → well_formed (commit t ws) ≡ true → Words (commit t ws)
    → commit_in (body_of (commit t ws)) ≡ commit t ws
commit_back t ws h k =
    let s = commit_shaped t ws h in
    let n : length ws % 256 ≡ length ws = omega (arith, s.0) in
    let e = round_trip 8 t k.0 in
    let r : paired (column 2 10 (length ws % 256) (write_bytes ws)) (column 8 10 (length ws % 256) (drop 2 (write_bytes ws))) ≡ ws =
    rw n (writes_back ws s.1 k.1) in
    λ i. commit (e i) (r i)

gossip_back : (prev curr : ℕ) (stamps : List ℕ) → well_formed (gossip prev curr stamps) ≡ true → Words (gossip prev curr stamps)
    → gossip_in (body_of (gossip prev curr stamps)) ≡ gossip prev curr stamps
gossip_back prev curr stamps h k =
    let n : length stamps % 256 ≡ length stamps = omega (arith, gossip_shaped prev curr stamps h) in
    let p = round_trip 8 prev k.0 in
    let q = round_trip 8 curr k.1 in
    let r : column 8 8 (length stamps % 256) (stamp_bytes stamps) ≡ stamps = rw n (stamps_back stamps k.2) in
    λ i. gossip (p i) (q i) (r i)

flush_back : (p : ℕ) → well_formed (flush p) ≡ true → flush_in (body_of (flush p)) ≡ flush p
flush_back p h =
    let l = ltb-true p 32 (both_left (ltb p 32) _ h) in
    let e : p % 256 ≡ p = omega arith in
    ap flush e

checked_back : (c : Change) → well_formed c ≡ true → checked (length_of c) c ≡ good c
checked_back c h = rw (eq-eqb (length_of c) (length_of c) refl, h)

decode_back : (c : Change) → well_formed c ≡ true → Words c → decode (length_of c) (kind_of c) (body_of c) ≡ good c
unfolding decode
decode_back (commit t ws) h k = ap (checked (length_of (commit t ws))) (commit_back t ws h k) ∙ checked_back (commit t ws) h
decode_back (gossip prev curr stamps) h k =
    ap (checked (length_of (gossip prev curr stamps))) (gossip_back prev curr stamps h k) ∙ checked_back (gossip prev curr stamps) h
decode_back (flush p) h k = ap (checked 2) (flush_back p h) ∙ checked_back (flush p) h

-- ---- a record's bytes, and a part of them
step_from : (n : ℕ) (more : List ℕ) (at : ℕ) → n ≤ 170 → step_on (be 2 n ++ more) at ≡ sized n more at
unfolding step_on
step_from n more at h =
    let l : ltb (length (be 2 n ++ more)) 2 ≡ false = le-ltb (length (be 2 n ++ more)) 2 (omega arith) in
    let e : from_be (be 2 n) ≡ n = round_trip 2 n (omega arith) in
    rw (l, e)

module _ (n : ℕ) (at : ℕ) (low : 2 ≤ n) (high : n ≤ 170) where
  sized_in : (more : List ℕ) → sized n more at
      ≡ pick (ltb (length more) n) short (step_of (decode n (get_or more 0 0) (take (n - 1) (drop 1 more))) at (at + 2 + n))
  sized_in more = rw (le-ltb n 2 low, le-ltb 170 n high)

  sized_short : (more : List ℕ) → length more < n → sized n more at ≡ short
  sized_short more h = sized_in more ∙ rw (lt-ltb (length more) n h)

  sized_whole : (k : ℕ) (body rest : List ℕ) → suc (length body) ≡ n
      → sized n (k ∷ (body ++ rest)) at ≡ step_of (decode n k body) at (at + 2 + n)
  sized_whole k body rest h =
      let l : n ≤ length (k ∷ (body ++ rest)) = omega (arith, length-append body rest) in
      sized_in (k ∷ (body ++ rest)) ∙ rw (le-ltb (length (k ∷ (body ++ rest))) n l, take_at body rest (n - 1) (omega arith))

pub reads_back : (c : Change) → well_formed c ≡ true → Words c → (rest : List ℕ) (at : ℕ)
    → step_on (encode c ++ rest) at ≡ whole c (at + length (encode c))
unfolding encode
reads_back c h k rest at =
    let r = length_range c h in
    let n : at + 2 + length_of c ≡ at + length (encode c) = omega (arith, encode_length c) in
    step_from (length_of c) ((be 1 (kind_of c) ++ body_of c) ++ rest) at r.1
    ∙ ap (λ (k : List ℕ). sized (length_of c) ((k ++ body_of c) ++ rest) at) (kind_byte c)
    ∙ sized_whole (length_of c) at r.0 r.1 (kind_of c) (body_of c) rest (body_length c)
    ∙ ap (λ (d : Decoded). step_of d at (at + 2 + length_of c)) (decode_back c h k)
    ∙ ap (whole c) n

pub reads_back_at : (c : Change) → well_formed c ≡ true → Words c → (pre rest : List ℕ)
    → step_at (pre ++ (encode c ++ rest)) (length pre) ≡ whole c (length pre + length (encode c))
reads_back_at c h k pre rest = rw (drop-append_seam pre (encode c ++ rest)) (reads_back c h k rest (length pre))

-- a proper beginning of a record is short, and never malformed
pub torn_none : (c : Change) (at : ℕ) → step_on (take 0 (encode c)) at ≡ end
unfolding step_on
torn_none c at = refl

pub torn_short : (c : Change) → well_formed c ≡ true → (n at : ℕ) → n < length (encode c) → 0 < n → step_on (take n (encode c)) at ≡ short
unfolding encode step_on
torn_short c h zero at l p = absurd (omega arith)
torn_short c h (suc zero) at l p = refl
torn_short c h (suc (suc m)) at l p =
    let r = length_range c h in
    let more : List ℕ = take m (be 1 (kind_of c) ++ body_of c) in
    let s : length more < length_of c = simp length-take (omega (arith, encode_length c)) in
    step_from (length_of c) more at r.1 ∙ sized_short (length_of c) at r.0 r.1 more s

-- two changes that are written alike are the same
pub encode_same : (c d : Change) → well_formed c ≡ true → well_formed d ≡ true → Words c → Words d → encode c ≡ encode d → c ≡ d
encode_same c d h g k l e =
    let p = reads_back c h k [] 0 in
    let q = reads_back d g l [] 0 in
    let r : whole c (0 + length (encode c)) ≡ whole d (0 + length (encode d)) = sym p ∙ ap (λ (b : List ℕ). step_on (b ++ []) 0) e ∙ q in
    cc

-- ---- a body that is read was written so
in_parts : (m n : ℕ) (b : List ℕ) → take m b ++ (take n (drop m b) ++ drop (m + n) b) ≡ b
in_parts m n b = rw (← drop-drop n m b, take-append-drop n (drop m b), take-append-drop m b)

writes_again : (n : ℕ) (b : List ℕ) → Bytes b → length b ≡ 10 * n → write_bytes (paired (column 2 10 n b) (column 8 10 n (drop 2 b))) ≡ b
writes_again zero [] h l = refl
writes_again zero (x ∷ b) h l = absurd (omega arith)
writes_again (suc n) b h l =
    let o = back_take 2 b h (omega arith) in
    let v = back_take 8 (drop 2 b) (below_drop 256 2 b h) (simp length-drop (omega arith)) in
    let e : drop 10 (drop 2 b) ≡ drop 2 (drop 10 b) = drop-drop 10 2 b ∙ sym (drop-drop 2 10 b) in
    let ih = writes_again n (drop 10 b) (below_drop 256 10 b h) (simp length-drop (omega arith)) in
    let r = ap (λ (l : List ℕ). write_bytes (paired (column 2 10 n (drop 10 b)) (column 8 10 n l))) e ∙ ih in
    (λ i. o i ++ (v i ++ r i)) ∙ in_parts 2 8 b

pub stamps_again : (n : ℕ) (b : List ℕ) → Bytes b → length b ≡ 8 * n → stamp_bytes (column 8 8 n b) ≡ b
stamps_again zero [] h l = refl
stamps_again zero (x ∷ b) h l = absurd (omega arith)
stamps_again (suc n) b h l =
    let s = back_take 8 b h (omega arith) in
    let ih = stamps_again n (drop 8 b) (below_drop 256 8 b h) (simp length-drop (omega arith)) in
    (λ i. s i ++ ih i) ∙ take-append-drop 8 b

paired_length : (os vs : List ℕ) → length os ≡ length vs → length (paired os vs) ≡ length os
paired_length [] vs h = refl
paired_length (o ∷ os) [] h = sym h
paired_length (o ∷ os) (v ∷ vs) h = ap suc (paired_length os vs (suc_inj h))

pub paired_below : (n : ℕ) (os vs : List ℕ) → Below n vs → Below n (map (λ w. w.value) (paired os vs))
paired_below n [] vs h = tt
paired_below n (o ∷ os) [] h = tt
paired_below n (o ∷ os) (v ∷ vs) h = (h.0, paired_below n os vs h.1)

-- the count m stands as the byte at i, and the rows behind it
pub counted : (i m : ℕ) (b : List ℕ) → Bytes b → i < length b → m ≡ get_or b i 0 → be 1 m ++ drop (suc i) b ≡ drop i b
counted i m b h l e =
    let k : m < 256 = subst (λ (x : ℕ). x < 256) (sym e) (all_get_d (λ x. x < 256) i b 0 (lit< tt) h) in
    ap (λ (l : List ℕ). l ++ drop (suc i) b) (be_one m k) ∙ rw e (sym (drop-cons b i 0 l))

commit_again : (b : List ℕ) → Bytes b → suc (length b) ≡ length_of (commit_in b) → (body_of (commit_in b) ≡ b) × Words (commit_in b)
commit_again b h l =
    let m = get_or b 8 0 in
    let os = column 2 10 m (drop 9 b) in
    let vs = column 8 10 m (drop 11 b) in
    let p = column_length 2 10 m (drop 9 b) in
    let n : length (paired os vs) ≡ m = paired_length os vs (p ∙ sym (column_length 8 10 m (drop 11 b))) ∙ p in
    let t = back_take 8 b h (omega arith) in
    let k : length (drop 9 b) ≡ 10 * m = simp length-drop (omega arith) in
    let e : drop 11 b ≡ drop 2 (drop 9 b) = sym (drop-drop 2 9 b) in
    let r = ap (λ (l : List ℕ). write_bytes (paired os (column 8 10 m l))) e ∙ writes_again m (drop 9 b) (below_drop 256 9 b h) k in
    let f = ap (λ (l : List ℕ). be 1 (length (paired os vs)) ++ l) r ∙ counted 8 (length (paired os vs)) b h (omega arith) n in (
      (λ i. t i ++ f i) ∙ take-append-drop 8 b,
      (bound_take 8 b h, paired_below (2 ^ 64) os vs (column_below 8 10 m (drop 11 b) (below_drop 256 11 b h))),
    )

gossip_again : (b : List ℕ) → Bytes b → suc (length b) ≡ length_of (gossip_in b) → (body_of (gossip_in b) ≡ b) × Words (gossip_in b)
gossip_again b h l =
    let m = get_or b 16 0 in
    let ss = column 8 8 m (drop 17 b) in
    let n : length ss ≡ m = column_length 8 8 m (drop 17 b) in
    let p = back_take 8 b h (omega arith) in
    let q = back_take 8 (drop 8 b) (below_drop 256 8 b h) (simp length-drop (omega arith)) in
    let k : length (drop 17 b) ≡ 8 * m = simp length-drop (omega arith) in
    let r = stamps_again m (drop 17 b) (below_drop 256 17 b h) k in
    let e = ap (λ (l : List ℕ). be 1 (length ss) ++ l) r ∙ counted 16 (length ss) b h (omega arith) n in (
      (λ i. p i ++ (q i ++ e i)) ∙ in_parts 8 8 b,
      (bound_take 8 b h, bound_take 8 (drop 8 b) (below_drop 256 8 b h), column_below 8 8 m (drop 17 b) (below_drop 256 17 b h)),
    )

flush_again : (b : List ℕ) → Bytes b → suc (length b) ≡ length_of (flush_in b) → (body_of (flush_in b) ≡ b) × Unit {0}
flush_again [] h l = absurd (omega arith)
flush_again (x ∷ []) h l = (be_one x h.0, tt)
flush_again (x ∷ y ∷ b) h l = absurd (omega arith)

-- the change that is read from a body has that kind, length and body
record Decodes (n k : ℕ) (b : List ℕ) (c : Change) : Type 0 where
  kind : kind_of c ≡ k
  size : length_of c ≡ n
  body : body_of c ≡ b
  formed : well_formed c ≡ true
  words : Words c

module _ (n k : ℕ) (b : List ℕ) (c : Change) (l : suc (length b) ≡ n) where
  checked_good : (d : Change) → (suc (length b) ≡ length_of d → (body_of d ≡ b) × Words d) → kind_of d ≡ k → checked n d ≡ good c → Decodes n k b c
  checked_good d again e h =
      pick_cases (both (eqb (length_of d) n) (well_formed d)) h
      (λ t p.
      let size = eqb-true _ _ (both_left (eqb (length_of d) n) _ t) in
      let w = again (l ∙ sym size) in
      let same : d ≡ c = cc in
      subst (Decodes n k b) same
      (record { kind = e; size = size; body = w.0; formed = both_right (eqb (length_of d) n) _ t; words = w.1 }))
      (λ t p. never (cc))

  decode_good : Bytes b → decode n k b ≡ good c → Decodes n k b c
  unfolding decode
  decode_good h e =
      pick_cases (eqb k 1) e (λ t p. checked_good (commit_in b) (commit_again b h) (sym (eqb-true k 1 t)) p)
      (λ _ e. pick_cases (eqb k 2) e (λ t p. checked_good (gossip_in b) (gossip_again b h) (sym (eqb-true k 2 t)) p)
      (λ _ e. pick_cases (eqb k 3) e (λ t p. checked_good (flush_in b) (flush_again b h) (sym (eqb-true k 3 t)) p)
      (λ _ p. never (cc))))

-- ---- a whole record that is read was written so
step_of_whole : (d : Decoded) (at m next : ℕ) (c : Change) → step_of d at m ≡ whole c next → (d ≡ good c) × (m ≡ next)
step_of_whole bad at m next c h = never (cc)
step_of_whole (good d) at m next c h = (cc, cc)

-- the first n bytes: the kind byte, and n - 1 behind it
first_of : (n : ℕ) (more : List ℕ) → 0 < n → n ≤ length more → get_or more 0 0 ∷ take (n - 1) (drop 1 more) ≡ take n more
first_of zero more h l = absurd (omega arith)
first_of (suc n) [] h l = absurd (omega arith)
first_of (suc n) (x ∷ more) h l = let e : suc n - 1 ≡ n = omega arith in rw e

-- what a reader saw of a whole record: its length n, of bytes that are all there, and the change
record Read (n : ℕ) (more : List ℕ) (at next : ℕ) (c : Change) : Type 0 where
  low : 2 ≤ n
  there : n ≤ length more
  ends : next ≡ at + 2 + n
  decodes : decode n (get_or more 0 0) (take (n - 1) (drop 1 more)) ≡ good c

sized_read : (n : ℕ) (more : List ℕ) (at next : ℕ) (c : Change) → sized n more at ≡ whole c next → Read n more at next c
sized_read n more at next c e =
    pick_cases (either (ltb n 2) (ltb 170 n)) e (λ _ p. never (cc))
    (λ r e. pick_cases (ltb (length more) n) e (λ _ p. never (cc))
    (λ t e.
    let s = step_of_whole (decode n (get_or more 0 0) (take (n - 1) (drop 1 more))) at (at + 2 + n) next c e in
    record { low = ltb-false n 2 (either_none (ltb n 2) (ltb 170 n) r).0; there = ltb-false _ _ t; ends = sym s.1; decodes = s.0 }))

step_read : (left : List ℕ) (at next : ℕ) (c : Change) → step_on left at ≡ whole c next
    → (2 ≤ length left) × Read (from_be (take 2 left)) (drop 2 left) at next c
unfolding step_on
step_read left at next c e =
    pick_cases (empty_b left) e (λ _ p. never (cc))
    (λ _ e. pick_cases (ltb (length left) 2) e (λ _ p. never (cc))
    (λ t e. (ltb-false _ _ t, sized_read (from_be (take 2 left)) (drop 2 left) at next c e)))

-- the kind and the body of what is read are the first n bytes behind the length
body_read : (n : ℕ) (more : List ℕ) (at next : ℕ) (c : Change) → Bytes more → Read n more at next c
    → (be 1 (kind_of c) ++ body_of c ≡ take n more) × (length_of c ≡ n) × (well_formed c ≡ true) × Words c
body_read n more at next c h r =
    let b = take (n - 1) (drop 1 more) in
    let low = r.low in
    let f = first_of n more (omega arith) r.there in
    let l = ap length f ∙ length-take-le n more r.there in
    let d = decode_good n (get_or more 0 0) b c l (below_take 256 (n - 1) (drop 1 more) (below_drop 256 1 more h)) r.decodes in
    ((λ i. kind_byte c i ++ d.body i) ∙ ap (λ (k : ℕ). k ∷ b) d.kind ∙ f, d.size, d.formed, d.words)

pub one_encoding : (left : List ℕ) (at next : ℕ) (c : Change) → Bytes left → step_on left at ≡ whole c next → Begins left at next c
unfolding encode
one_encoding left at next c h e =
    let n = from_be (take 2 left) in
    let s = step_read left at next c e in
    let b = body_read n (drop 2 left) at next c (below_drop 256 2 left h) s.1 in
    let p : be 2 (length_of c) ≡ take 2 left = ap (be 2) b.1 ∙ back_take 2 left h s.0 in
    let all : be 2 (length_of c) ++ (be 1 (kind_of c) ++ body_of c) ≡ take (2 + n) left = (λ i. p i ++ b.0 i) ∙ sym (take-add 2 n left) in
    let m : length (encode c) ≡ 2 + n = omega (arith, encode_length c, b.1) in
    let q : next - at ≡ 2 + n = omega (arith, s.1.ends) in
    record {
      taken = ap (λ (x : ℕ). take x left) q ∙ sym all;
      ends = omega (arith, s.1.ends);
      fits = omega (arith, s.1.there, length-drop 2 left, s.0);
      formed = b.2;
      words = b.3;
    }

-- ---- a write over a journal changes the bytes that it writes, and no other
pub write_else : (at : ℕ) (bs j : List ℕ) → at + length bs ≤ length j → Only at bs j (write_at at bs j)
write_else at bs j h =
    let k = bs ++ drop (at + length bs) j in
    let l : length (take at j) ≡ at = length-take-le at j (omega arith) in
    let d : drop at (write_at at bs j) ≡ k = drop_at (take at j) k at l in
    record {
      before = take_at (take at j) k at l;
      here = ap (take (length bs)) d ∙ take-append_seam bs (drop (at + length bs) j);
      behind = sym (drop-drop (length bs) at (write_at at bs j)) ∙ ap (drop (length bs)) d ∙ drop-append_seam bs (drop (at + length bs) j);
      same_length = simp (length-append, length-drop, l) (omega arith);
    }

pub written_else : (j : List ℕ) (used : ℕ) (c : Change) → reached used c ≤ length j → Only used (appended used c) j (written j used c)
unfolding reached written
written_else j used c h = write_else used (appended used c) j h
