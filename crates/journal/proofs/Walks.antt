-- What the model's reader finds, answer by answer: the walk's code tests its way to one of these.
use Prim.Native.Nat.{ℕ, zero, suc, ◌+◌, ◌*◌, ◌-◌, ◌<◌, ◌≤◌}
use mathlib.Core.Path.{◌≡◌, refl, ap, sym, ◌∙◌}
use mathlib.Core.Bool.{Bool, true, false, not}
use mathlib.Core.List.{List, [], ◌∷◌, ◌++◌}
use native.Mathlib.Omega.{arith}
use lib.ListN.{length, take, drop, get_or, replicate, length-append, length-drop, length-take, drop_of_length-le}
use lib.Seq.{length-take-le, take_at, drop-drop, get_or-drop}
use lib.Dec.{ltb}
use borrow.Author.Tests.{ltb-true, ltb-false, lt-ltb, le-ltb, lt-leb, eq-eqb, ne_eqb}
use Rattle.model.specs.Lists.{both, empty_b, twice_b}
use Rattle.model.specs.Bytes.{column, from_be}
use Rattle.model.specs.Changes.{Change, objects_of, paired}
use Rattle.model.specs.Judgement.{well_formed, objects_shaped, stamps_shaped}
use Rattle.model.specs.Records as records
use Rattle.model.specs.Records.{length_of, commit_in, gossip_in, flush_in, checked, decode, bad, good, short, malformed, sized, step_of, step_on, step_at}
use Rattle.rules.proofs.Marks.{by_test}
use Rattle.journal.specs.Counts.{Counted, Uncounted}
use Rattle.journal.specs.Heads.{head_of, head_decoded, head_step}
use Rattle.journal.specs.declared.walk.Record.{Record}
use Rattle.journal.specs.declared.walk.Record.TheVariants.{Commit, Gossip}
use Rattle.std.specs.Prelude.{Some, None}
use Rattle.std.specs.declared.option.Option.{Option}
use Rattle.journal.specs.declared.walk.Step.{Step}
use Rattle.journal.specs.declared.walk.Step.TheVariants.{End, Short, Malformed, Whole}

both_false : (b : Bool) → both b false ≡ false
both_false true = refl
both_false false = refl

both_true : (b : Bool) → both b true ≡ b
both_true true = refl
both_true false = refl

-- ---- a column read into the front of an array
pub column_length : (w stride n : ℕ) (b : List ℕ) → length (column w stride n b) ≡ n
column_length w stride zero b = refl
column_length w stride (suc n) b = ap suc (column_length w stride n (drop stride b))

-- the array of the code, before it is filled
abbrev pub blank : List ℕ
blank = replicate 16 0

pub blank_front : (n : ℕ) → n ≤ 16 → length (take n blank) ≡ n
blank_front n h = length-take-le n blank h

-- the array once p has come back as its first n numbers, which are then col
pub record Front (n : ℕ) (p col : List ℕ) : Type 0 where
  pub fits : n ≤ length (p ++ drop n blank)
  pub long : n ≡ length (take n (p ++ drop n blank))
  pub holds : take n (p ++ drop n blank) ≡ col

pub filled : {p : List ℕ} (w stride n : ℕ) (b : List ℕ) → n ≤ 16 → p ≡ column w stride (length (take n blank)) b → Front n p (column w stride n b)
filled {p} w stride n b h e =
    let f : p ≡ column w stride n b = e ∙ ap (λ (k : ℕ). column w stride k b) (blank_front n h) in
    let l : length p ≡ n = ap length f ∙ column_length w stride n b in
    let o : n ≤ length (p ++ drop n blank) = simp length-append (omega arith) in
    record { fits = o; long = sym (length-take-le n (p ++ drop n blank) o); holds = take_at p (drop n blank) n l ∙ f }

-- ---- a record's length and form
pub paired_length : (os vs : List ℕ) → length os ≡ length vs → length (paired os vs) ≡ length os
paired_length [] vs e = refl
paired_length (o ∷ os) [] e = sym e
paired_length (o ∷ os) (v ∷ vs) e = let ih = paired_length os vs (omega arith) in ap suc ih

pub paired_objects : (os vs : List ℕ) → length os ≡ length vs → objects_of (paired os vs) ≡ os
paired_objects [] vs e = refl
paired_objects (o ∷ os) [] e = absurd (omega arith)
paired_objects (o ∷ os) (v ∷ vs) e = let ih = paired_objects os vs (omega arith) in ap (λ (l : List ℕ). o ∷ l) ih

objects_over : (os : List ℕ) → 16 < length os → objects_shaped os ≡ false
unfolding objects_shaped
objects_over os h = rw (lt-leb (length os) 16 h, both_false)

stamps_over : (prev curr : ℕ) (stamps : List ℕ) → 16 < length stamps → stamps_shaped prev curr stamps ≡ false
unfolding stamps_shaped
stamps_over prev curr stamps h = rw (lt-leb (length stamps) 16 h)

-- ---- a body is judged by its length and its form
module _ (n : ℕ) (c : Change) where
  missized : (length_of c ≡ n → ⊥) → None ≡ head_decoded (checked n c)
  missized h = rw (ne_eqb (length_of c) n h)

  misshapen : well_formed c ≡ false → None ≡ head_decoded (checked n c)
  misshapen h = rw (h, both_false)

  sound : {r : Record} → r ≡ head_of c → length_of c ≡ n → well_formed c ≡ true → Some r ≡ head_decoded (checked n c)
  sound e l h = rw (e, eq-eqb (length_of c) n l, h)

-- ---- a commit's body
abbrev pub objects_in : List ℕ → List ℕ
objects_in b = column 2 10 (get_or b 8 0) (drop 9 b)

-- the Shape and Twice rules for objects
abbrev pub fine_b : List ℕ → Bool
fine_b os = both (objects_shaped os) (not (twice_b os))

-- one object is fine where it is the store's
pub one_fine : {n x : ℕ} (b : List ℕ) → n ≡ 1 → x ≡ from_be (take 2 b) → ltb x 512 ≡ fine_b (column 2 10 n b)
unfolding objects_shaped
one_fine b e h = let o = ltb (from_be (take 2 b)) 512 in rw (e, h) (sym (both_true (both o true) ∙ both_true o))

module _ (b : List ℕ) where
  same_length : length (objects_in b) ≡ length (column 8 10 (get_or b 8 0) (drop 11 b))
  same_length = column_length 2 10 (get_or b 8 0) (drop 9 b) ∙ sym (column_length 8 10 (get_or b 8 0) (drop 11 b))

  commit_count : length (paired (objects_in b) (column 8 10 (get_or b 8 0) (drop 11 b))) ≡ get_or b 8 0
  commit_count = paired_length (objects_in b) (column 8 10 (get_or b 8 0) (drop 11 b)) same_length ∙ column_length 2 10 (get_or b 8 0) (drop 9 b)

  commit_length : length_of (commit_in b) ≡ 10 + 10 * get_or b 8 0
  commit_length = rw commit_count

  commit_formed : well_formed (commit_in b) ≡ fine_b (objects_in b)
  commit_formed = rw (paired_objects (objects_in b) (column 8 10 (get_or b 8 0) (drop 11 b)) same_length)

  pub commit_missized : (length b ≡ 9 + 10 * get_or b 8 0 → ⊥) → None ≡ head_decoded (checked (length b + 1) (commit_in b))
  commit_missized h = missized (length b + 1) (commit_in b) (λ e. h (omega (arith, commit_length, e)))

  pub commit_over : 16 < get_or b 8 0 → None ≡ head_decoded (checked (length b + 1) (commit_in b))
  commit_over h =
      let l : 16 < length (objects_in b) = omega (arith, column_length 2 10 (get_or b 8 0) (drop 9 b)) in
      misshapen (length b + 1) (commit_in b) (commit_formed ∙ rw (objects_over (objects_in b) l))

  pub commit_uncounted : Uncounted b 9 10 → None ≡ head_decoded (checked (length b + 1) (commit_in b))
  commit_uncounted u =
      by_test (ltb 16 (get_or b 8 0))
      (λ t. commit_over (ltb-true 16 (get_or b 8 0) t))
      (λ t. commit_missized (λ e. u.none (ltb-false 16 (get_or b 8 0) t) e))

  module _ {n : ℕ} (k : Counted b 9 10 n) where
    pub commit_misshapen : fine_b (column 2 10 n (drop 9 b)) ≡ false → None ≡ head_decoded (checked (length b + 1) (commit_in b))
    commit_misshapen f = misshapen (length b + 1) (commit_in b) (commit_formed ∙ (rw k.told at f))

    pub commit_sound : {t : ℕ} → t ≡ from_be (take 8 b) → fine_b (column 2 10 n (drop 9 b)) ≡ true
        → Some (Commit (record { stamp = t; count = n })) ≡ head_decoded (checked (length b + 1) (commit_in b))
    commit_sound e f = sound (length b + 1) (commit_in b) (rw (e, k.told, commit_count)) (omega (arith, commit_length, k.fits, k.told)) (commit_formed ∙ (rw k.told at f))

-- ---- a gossip message's body
abbrev pub stamps_in : List ℕ → List ℕ
stamps_in b = column 8 8 (get_or b 16 0) (drop 17 b)

module _ (b : List ℕ) where
  gossip_count : length (stamps_in b) ≡ get_or b 16 0
  gossip_count = column_length 8 8 (get_or b 16 0) (drop 17 b)

  gossip_formed : well_formed (gossip_in b) ≡ stamps_shaped (from_be (take 8 b)) (from_be (take 8 (drop 8 b))) (stamps_in b)
  gossip_formed = both_true _

  pub gossip_missized : (length b ≡ 17 + 8 * get_or b 16 0 → ⊥) → None ≡ head_decoded (checked (length b + 1) (gossip_in b))
  gossip_missized h = missized (length b + 1) (gossip_in b) (λ e. h (omega (arith, gossip_count, e)))

  pub gossip_over : 16 < get_or b 16 0 → None ≡ head_decoded (checked (length b + 1) (gossip_in b))
  gossip_over h =
      let l : 16 < length (stamps_in b) = omega (arith, gossip_count) in
      misshapen (length b + 1) (gossip_in b) (gossip_formed ∙ stamps_over _ _ (stamps_in b) l)

  pub gossip_uncounted : Uncounted b 17 8 → None ≡ head_decoded (checked (length b + 1) (gossip_in b))
  gossip_uncounted u =
      by_test (ltb 16 (get_or b 16 0))
      (λ t. gossip_over (ltb-true 16 (get_or b 16 0) t))
      (λ t. gossip_missized (λ e. u.none (ltb-false 16 (get_or b 16 0) t) e))

  pub gossip_sound : {prev curr n : ℕ} → Counted b 17 8 n → prev ≡ from_be (take 8 b) → curr ≡ from_be (take 8 (drop 8 b))
      → stamps_shaped prev curr (column 8 8 n (drop 17 b)) ≡ true
      → Some (Gossip (record { prev = prev; curr = curr; count = n })) ≡ head_decoded (checked (length b + 1) (gossip_in b))
  gossip_sound k p q f =
      sound (length b + 1) (gossip_in b) (rw (p, q, k.told, gossip_count)) (omega (arith, gossip_count, k.fits, k.told)) (gossip_formed ∙ (rw (p, q, k.told) at f))

-- ---- a step: the length, then the record
nonempty : (l : List ℕ) → 0 < length l → empty_b l ≡ false
nonempty [] h = absurd (omega arith)
nonempty (x ∷ l) h = refl

-- the step that the code makes of a record it has read
abbrev pub told_step : Option Record → ℕ → ℕ → Step
told_step None at next = Malformed at
told_step (Some r) at next = Whole r (record { at = next })

told : (d : records.Decoded) (at next : ℕ) → told_step (head_decoded d) at next ≡ head_step (step_of d at next)
told bad at next = refl
told (good c) at next = refl

-- of a length n and the bytes behind it
module _ (n : ℕ) (rest : List ℕ) (at : ℕ) where
  sized_small : n < 2 → sized n rest at ≡ malformed at
  sized_small h = rw (lt-ltb n 2 h)

  sized_large : 170 < n → sized n rest at ≡ malformed at
  sized_large h = let o : 2 ≤ n = omega arith in rw (le-ltb n 2 o, lt-ltb 170 n h)

  module _ (lo : 2 ≤ n) (hi : n ≤ 170) where
    sized_short : length rest < n → sized n rest at ≡ short
    sized_short h = rw (le-ltb n 2 lo, le-ltb 170 n hi, lt-ltb (length rest) n h)

    sized_whole : n ≤ length rest → sized n rest at ≡ step_of (decode n (get_or rest 0 0) (take (n - 1) (drop 1 rest))) at (at + 2 + n)
    sized_whole h = rw (le-ltb n 2 lo, le-ltb 170 n hi, le-ltb (length rest) n h)

-- the record of length n at a place: its body as the code lends it, and what is read there
abbrev pub body_at : List ℕ → ℕ → ℕ → List ℕ
body_at s at n = take (at + 2 + n - (at + 3)) (drop (at + 3) s)

abbrev pub read_at : List ℕ → ℕ → ℕ → records.Decoded
read_at s at n = decode (length (body_at s at n) + 1) (get_or s (at + 2) 0) (body_at s at n)

-- of the journal s at a place, as the code tests it
module _ (s : List ℕ) (at : ℕ) where
  pub at_end : length s ≤ at → End ≡ head_step (step_at s at)
  unfolding step_on
  at_end h = rw (drop_of_length-le s h)

  pub at_torn : at < length s → length s - at < 2 → Short ≡ head_step (step_at s at)
  unfolding step_on
  at_torn h l =
      let e : length (drop at s) ≡ length s - at = length-drop at s in
      let o : 0 < length (drop at s) = omega arith in
      let m : length (drop at s) < 2 = omega arith in
      rw (nonempty (drop at s) o, lt-ltb (length (drop at s)) 2 m)

  module _ {n : ℕ} (e : n ≡ from_be (take 2 (drop at s))) (l : 2 ≤ length s - at) where
    at_sized : step_at s at ≡ sized n (drop (at + 2) s) at
    unfolding step_on
    at_sized =
        let d : length (drop at s) ≡ length s - at = length-drop at s in
        let o : 0 < length (drop at s) = omega arith in
        let m : 2 ≤ length (drop at s) = omega arith in
        rw (e, nonempty (drop at s) o, le-ltb (length (drop at s)) 2 m, drop-drop 2 at s)

    pub at_small : n < 2 → Malformed at ≡ head_step (step_at s at)
    at_small h = rw (at_sized, sized_small n (drop (at + 2) s) at h)

    pub at_large : 170 < n → Malformed at ≡ head_step (step_at s at)
    at_large h = rw (at_sized, sized_large n (drop (at + 2) s) at h)

    pub at_outside : (2 ≤ n → n ≤ 170 → ⊥) → Malformed at ≡ head_step (step_at s at)
    at_outside h =
        by_test (ltb n 2)
        (λ t. at_small (ltb-true n 2 t))
        (λ t. by_test (ltb 170 n) (λ u. at_large (ltb-true 170 n u)) (λ u. absurd (h (ltb-false n 2 t) (ltb-false 170 n u))))

    module _ (lo : 2 ≤ n) (hi : n ≤ 170) where
      pub at_cut : length s - at - 2 < n → Short ≡ head_step (step_at s at)
      at_cut h =
          let o : length (drop (at + 2) s) < n = simp length-drop (omega arith) in
          rw (at_sized, sized_short n (drop (at + 2) s) at lo hi o)

      -- what is read of the body that the code lends
      module _ (h : n ≤ length s - at - 2) where
        at_body : take (n - 1) (drop 1 (drop (at + 2) s)) ≡ body_at s at n
        at_body =
            let i : at + 2 + 1 ≡ at + 3 = omega arith in
            let k : n - 1 ≡ at + 2 + n - (at + 3) = omega arith in
            rw (drop-drop 1 (at + 2) s, i, k)

        at_kind : get_or (drop (at + 2) s) 0 0 ≡ get_or s (at + 2) 0
        at_kind = let i : at + 2 + 0 ≡ at + 2 = omega arith in rw (get_or-drop (at + 2) s 0 0, i)

        at_length : length (body_at s at n) + 1 ≡ n
        at_length = simp (length-take, length-drop) (omega arith)

        at_decoded : step_at s at ≡ step_of (read_at s at n) at (at + 2 + n)
        at_decoded =
            let o : n ≤ length (drop (at + 2) s) = simp length-drop (omega arith) in
            at_sized ∙ sized_whole n (drop (at + 2) s) at lo hi o ∙ rw (at_kind, at_body, at_length)

        pub at_read : {x : Option Record} → x ≡ head_decoded (read_at s at n) → told_step x at (at + 2 + n) ≡ head_step (step_at s at)
        at_read g = rw (g, at_decoded) (told (read_at s at n) at (at + 2 + n))
