-- Known snapshots. They ascend, so the last one at or before a time is the largest such; and whether a row is wanted is
-- decided by the last one before its end, and by the mark.
use Prim.Native.Nat.{ℕ, zero, suc, ◌-◌, ◌<◌, ◌≤◌, max}
use mathlib.Core.Path.{◌≡◌, refl, sym, ap, ◌∙◌, subst}
use mathlib.Core.Bool.{Bool, true, false, not}
use mathlib.Core.List.{List, [], ◌∷◌}
use native.Mathlib.Omega.{arith}
use lib.ListN.{length, take, get_or}
use lib.Dec.{eqb, ltb, leb, eqb-suc-zero, leb-suc-suc}
use borrow.Author.Tests.{ltb-true, leb-true, leb-false, lt-ltb, le-ltb, le-leb, lt-leb}
use Rattle.model.specs.declared.Past.{Past}
use Rattle.model.specs.Lists.{both, either, pick, rising_from}
use Rattle.model.specs.Reads.{largest}
use Rattle.tables.specs.Lookups.{last_before, wants_b, wanted_b}
use Rattle.tables.proofs.Cases.{by_test, clash}
use Rattle.tables.proofs.Searches.{both_left, both_right}
use Rattle.tables.proofs.Rising.{first_beyond, rest_rises}

-- ---- the first n of a list ascend
rises_to : (lo n r : ℕ) (l : List ℕ) → rising_from lo (take n l) ≡ true → r ≤ n → n ≤ length l → lo ≤ get_or (lo ∷ l) r 0
rises_to lo n zero l a i h = omega arith
rises_to lo zero (suc r) l a i h = absurd (omega arith)
rises_to lo (suc n) (suc r) [] a i h = absurd (omega arith)
rises_to lo (suc n) (suc r) (x ∷ xs) a i h =
    let f = first_beyond lo x (take n xs) a in
    let ih = rises_to x n r xs (rest_rises lo x (take n xs) a) (omega arith) (omega arith) in
    omega arith

largest_none : (time lo : ℕ) (l : List ℕ) → rising_from lo l ≡ true → time ≤ lo → largest time l ≡ 0
largest_none time lo [] a h = refl
largest_none time lo (x ∷ xs) a h =
    let f = first_beyond lo x xs a in
    rw (lt-leb x time (omega arith)) (largest_none time x xs (rest_rises lo x xs a) (omega arith))

-- r of them are at or before the time: the last of these is the largest, counted from lo
largest_from : (time lo n r : ℕ) (l : List ℕ) → rising_from lo (take n l) ≡ true → r ≤ n → n ≤ length l
    → get_or (lo ∷ l) r 0 ≤ time → (r < n → time < get_or l r 0) → max lo (largest time (take n l)) ≡ get_or (lo ∷ l) r 0
largest_from time lo zero zero l a i h e f = omega arith
largest_from time lo zero (suc r) l a i h e f = absurd (omega arith)
largest_from time lo (suc n) r [] a i h e f = absurd (omega arith)
largest_from time lo (suc n) zero (x ∷ xs) a i h e f =
    let b = f (omega arith) in
    let z = largest_none time x (take n xs) (rest_rises lo x (take n xs) a) (omega arith) in
    rw (lt-leb x time b, z) (omega arith)
largest_from time lo (suc n) (suc r) (x ∷ xs) a i h e f =
    let b = first_beyond lo x (take n xs) a in
    let w = rest_rises lo x (take n xs) a in
    let t = rises_to x n r xs w (omega arith) (omega arith) in
    let ih = largest_from time x n r xs w (omega arith) (omega arith) e (λ k. f (omega arith)) in
    rw (le-leb x time (omega arith)) (omega arith)

module _ (time n : ℕ) (l : List ℕ) (a : rising_from 0 (take n l) ≡ true) (h : n ≤ length l) where
  known_at : (r : ℕ) → r ≤ n → get_or (0 ∷ l) r 0 ≤ time → (r < n → time < get_or l r 0) → get_or (0 ∷ l) r 0 ≡ largest time (take n l)
  known_at r i e f = let w = largest_from time 0 n r l a i h e f in omega arith

  pub none_known : (r : ℕ) → r ≡ 0 → (r < n → time < get_or l r 0) → 0 ≡ largest time (take n l)
  none_known r z f = known_at 0 (omega arith) (omega arith) (subst (λ (k : ℕ). k < n → time < get_or l k 0) z f)

  pub last_known : (r : ℕ) → (r ≡ 0 → ⊥) → r ≤ n → (0 < r → get_or l (r - 1) 0 ≤ time) → (r < n → time < get_or l r 0)
      → get_or l (r - 1) 0 ≡ largest time (take n l)
  last_known zero z i e f = absurd (z refl)
  last_known (suc r) z i e f =
      let q : suc r - 1 ≡ r = omega arith in
      ap (λ k. get_or l k 0) q ∙ known_at (suc r) i (subst (λ (k : ℕ). get_or l k 0 ≤ time) q (e (omega arith))) f

-- ---- the last one before a stamp
pick_same : (b : Bool) (x : ℕ) → pick b x x ≡ x
pick_same true x = refl
pick_same false x = refl

cons_by : (b : Bool) (x v : ℕ) (l : List ℕ) → b ≡ false
    → pick b 0 (largest v (x ∷ l)) ≡ pick (leb x v) (max x (pick b 0 (largest v l))) (pick b 0 (largest v l))
cons_by true x v l e = clash e
cons_by false x v l e = refl

last_cons : (x u : ℕ) (l : List ℕ) → last_before (x ∷ l) u ≡ pick (ltb x u) (max x (last_before l u)) (last_before l u)
last_cons x zero l = rw (le-ltb x 0 (omega arith))
last_cons x (suc u) l =
    let e : suc u - 1 ≡ u = omega arith in
    cons_by (eqb (suc u) 0) x (suc u - 1) l (eqb-suc-zero u)
    ∙ ap (λ b. pick b (max x (last_before l (suc u))) (last_before l (suc u))) (ap (leb x) e ∙ sym (leb-suc-suc x u))

-- a later stamp is wanted where an earlier one is, so that of two the later one decides
wants_later : (x y m : ℕ) (q : Past) → x ≤ y → wants_b x m q ≡ true → wants_b y m q ≡ true
wants_later x y m q h e =
    let a = leb-true q.from x (both_left (leb q.from x) (ltb m x) e) in
    let b = ltb-true m x (both_right (leb q.from x) (ltb m x) e) in
    rw (le-leb q.from y (omega arith), lt-ltb m y (omega arith))

right_decides : (a b : Bool) → (a ≡ true → b ≡ true) → either a b ≡ b
right_decides true b f = sym (f refl)
right_decides false b f = refl

left_decides : (a b : Bool) → (b ≡ true → a ≡ true) → either a b ≡ a
left_decides true b f = refl
left_decides false true f = sym (f refl)
left_decides false false f = refl

wants_max : (x y m : ℕ) (q : Past) → either (wants_b x m q) (wants_b y m q) ≡ wants_b (max x y) m q
wants_max x y m q =
    by_test (leb x y)
    (λ t.
    let h = leb-true x y t in
    let e : max x y ≡ y = omega arith in
    rw e (right_decides (wants_b x m q) (wants_b y m q) (wants_later x y m q h)))
    (λ t.
    let h = leb-false x y t in
    let e : max x y ≡ x = omega arith in
    rw e (left_decides (wants_b x m q) (wants_b y m q) (wants_later y x m q (omega arith))))

both_true : (a : Bool) → both a true ≡ a
both_true true = refl
both_true false = refl

both_false : (a : Bool) → both a false ≡ false
both_false true = refl
both_false false = refl

one_more : (b : Bool) (x y m : ℕ) (q : Past) → either (both (both (leb q.from x) b) (ltb m x)) (wants_b y m q) ≡ wants_b (pick b (max x y) y) m q
one_more true x y m q = rw (both_true (leb q.from x)) (wants_max x y m q)
one_more false x y m q = rw (both_false (leb q.from x))

pub wanted_last : (known : List ℕ) (m : ℕ) (q : Past) → wanted_b known m q ≡ wants_b (last_before known q.until) m q
wanted_last [] m q = rw (pick_same (eqb q.until 0) 0, le-ltb m 0 (omega arith), both_false (leb q.from 0))
wanted_last (x ∷ xs) m q =
    ap (either (both (both (leb q.from x) (ltb x q.until)) (ltb m x))) (wanted_last xs m q)
    ∙ one_more (ltb x q.until) x (last_before xs q.until) m q
    ∙ ap (λ k. wants_b k m q) (sym (last_cons x q.until xs))

-- ---- a stamp that is wanted beyond 0: the mark decides
pub wants_some : (s : ℕ) (q : Past) → wants_b s 0 q ≡ true → 0 < s
wants_some s q w = ltb-true 0 s (both_right (leb q.from s) (ltb 0 s) w)

pub wants_none : (s m : ℕ) (q : Past) → wants_b s 0 q ≡ false → wants_b s m q ≡ false
wants_none s m q w =
    by_test (wants_b s m q)
    (λ e.
    let h = ltb-true m s (both_right (leb q.from s) (ltb m s) e) in
    let y : wants_b s 0 q ≡ true = rw (both_left (leb q.from s) (ltb m s) e, lt-ltb 0 s (omega arith)) in
    clash (sym y ∙ w))
    (λ e. e)

pub wants_beyond : (s m : ℕ) (q : Past) → wants_b s 0 q ≡ true → wants_b s m q ≡ not (leb s m)
wants_beyond s m q w =
    let f = both_left (leb q.from s) (ltb 0 s) w in
    by_test (leb s m)
    (λ e. rw (f, e, le-ltb m s (leb-true s m e)))
    (λ e. rw (f, e, lt-ltb m s (leb-false s m e)))
