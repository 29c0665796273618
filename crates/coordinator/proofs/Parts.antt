-- Rising stamps parted at a bound, and those behind it at another: the stamps of a message are a part of the list, which tells its curr.
use Prim.Native.Nat.{ℕ, zero, suc, ◌-◌, ◌≤◌, ◌<◌}
use mathlib.Core.Path.{◌≡◌, refl, ap, sym, ◌∙◌}
use mathlib.Core.Bool.{true, false}
use mathlib.Core.List.{List, [], ◌∷◌}
use native.Mathlib.Omega.{arith}
use lib.ListN.{length, take, drop, get_or, length-drop}
use lib.Seq.{take_all, take-take, get_or-take, length-take-le}
use lib.Dec.{leb}
use borrow.Author.Tests.{leb-true, leb-false, lt-ltb, le-ltb, le-leb, lt-leb}
use Rattle.model.specs.Lists.{pick, rising_from}
use Rattle.model.specs.Coordinator.{stamps_in}
use Rattle.tables.proofs.Cases.{by_test}
use Rattle.tables.proofs.Rising.{first_beyond, rest_rises}
use Rattle.coordinator.specs.Messages.{Speaks}
use Rattle.std.specs.List.Sorted.{IsPartitionPoint}

-- the index n parts a list at a bound: the one before it is at most the bound, the one at it is beyond
pub record Parted (l : List ℕ) (bound n : ℕ) : Type 0 where
  pub inside : n ≤ length l
  pub low : (i : ℕ) → suc i ≡ n → get_or l i 0 ≤ bound
  pub high : n < length l → bound < get_or l n 0

-- as the library finds it
pub parted_point : {l : List ℕ} {bound n : ℕ} → n ≤ length l → IsPartitionPoint (λ s. leb s bound ≡ true) (λ s. leb s bound ≡ false) l n → Parted l bound n
parted_point {l} {bound} {n} h point = record {
  inside = h;
  low = λ i e. leb-true _ _ (point.0 i 0 (omega arith) (omega arith));
  high = λ k. leb-false _ _ (point.1 n 0 (omega arith) k);
}

-- ---- how many at the front are at most a bound
abbrev leading : ℕ → List ℕ → ℕ
leading b [] = 0
leading b (x ∷ xs) = pick (leb x b) (suc (leading b xs)) 0

-- the first of a rising list is its least
least : (lo x : ℕ) (xs : List ℕ) (i : ℕ) → rising_from lo (x ∷ xs) ≡ true → i < suc (length xs) → x ≤ get_or (x ∷ xs) i 0
least lo x xs zero r h = omega arith
least lo x [] (suc i) r h = absurd (omega arith)
least lo x (y ∷ ys) (suc i) r h =
    let q = rest_rises lo x (y ∷ ys) r in
    omega (arith, least x y ys i q (omega arith), first_beyond x y ys q)

parted_leading : (lo : ℕ) (l : List ℕ) (b n : ℕ) → rising_from lo l ≡ true → Parted l b n → n ≡ leading b l
parted_leading lo [] b n r p = omega (arith, p.inside)
parted_leading lo (x ∷ xs) b zero r p = rw (lt-leb x b (p.high (omega arith)))
parted_leading lo (x ∷ xs) b (suc n) r p =
    let h = p.inside in
    let low : x ≤ b = omega (arith, least lo x xs n r (omega arith), p.low n refl) in
    let q : Parted xs b n = record { inside = omega arith; low = λ i e. p.low (suc i) (ap suc e); high = λ k. p.high (omega arith) } in
    rw (le-leb x b low) (ap suc (parted_leading x xs b n (rest_rises lo x xs r) q))

leading_none : (b x : ℕ) (xs : List ℕ) → rising_from x xs ≡ true → b < x → leading b xs ≡ 0
leading_none b x [] r h = refl
leading_none b x (y ∷ ys) r h = rw (lt-leb y b (omega (arith, first_beyond x y ys r)))

-- ---- what is left behind some of a rising list rises too
rising_lower : (lo x : ℕ) (xs : List ℕ) → lo < x → rising_from x xs ≡ true → rising_from lo xs ≡ true
rising_lower lo x [] h r = refl
rising_lower lo x (y ∷ ys) h r = rw (lt-ltb lo y (omega (arith, first_beyond x y ys r))) (rest_rises x y ys r)

pub rising_drop : (lo a : ℕ) (l : List ℕ) → rising_from lo l ≡ true → rising_from lo (drop a l) ≡ true
rising_drop lo zero l r = r
rising_drop lo (suc a) [] r = refl
rising_drop lo (suc a) (x ∷ xs) r = rising_drop lo a xs (rising_lower lo x xs (first_beyond lo x xs r) (rest_rises lo x xs r))

-- ---- the stamps between two bounds: of those beyond the first, those at most the second
between : (lo p c : ℕ) (l : List ℕ) → rising_from lo l ≡ true
    → stamps_in p c l ≡ take (leading c (drop (leading p l) l)) (drop (leading p l) l)
between lo p c [] r = refl
between lo p c (x ∷ xs) r =
    let q = rest_rises lo x xs r in
    let ih = between x p c xs q in
    by_test (leb x p)
    (λ t. rw (t, le-ltb p x (leb-true x p t)) ih)
    (λ t.
    let m = leb-false x p t in
    let none = leading_none p x xs q m in
    by_test (leb x c)
    (λ u. rw (t, u, lt-ltb p x m) (ap (λ l. x ∷ l) (rw none at ih)))
    (λ u. let o = leading_none c x xs q (leb-false x c u) in rw (t, u, lt-ltb p x m) (rw (none, o) at ih)))

-- a part of a list up to its end
pub part_all : (a : ℕ) (l : List ℕ) → take (length l - a) (drop a l) ≡ drop a l
part_all a l = take_all (length l - a) (drop a l) (simp length-drop (omega arith))

-- ---- each of a rising list is beyond what it rises from, and at least any before it
beyond : (lo : ℕ) (l : List ℕ) → rising_from lo l ≡ true → (j d : ℕ) → j < length l → lo < get_or l j d
beyond lo [] r j d h = absurd (omega arith)
beyond lo (x ∷ l) r zero d h = first_beyond lo x l r
beyond lo (x ∷ l) r (suc j) d h = let ih = beyond x l (rest_rises lo x l r) j d (omega arith) in omega (arith, first_beyond lo x l r)

pub never_falls : (lo : ℕ) (l : List ℕ) → rising_from lo l ≡ true → (i j d : ℕ) → i ≤ j → j < length l → get_or l i d ≤ get_or l j d
never_falls lo [] r i j d o h = absurd (omega arith)
never_falls lo (x ∷ l) r zero zero d o h = omega arith
never_falls lo (x ∷ l) r (suc i) zero d o h = absurd (omega arith)
never_falls lo (x ∷ l) r zero (suc j) d o h = let b = beyond x l (rest_rises lo x l r) j d (omega arith) in omega arith
never_falls lo (x ∷ l) r (suc i) (suc j) d o h = never_falls x l (rest_rises lo x l r) i j d (omega arith) (omega arith)

module _ (l after : List ℕ) (p c a n : ℕ) (r : rising_from 0 l ≡ true) (start : Parted l p a) (e : after ≡ drop a l) (count : Parted after c n) where
  stamps_part : stamps_in p c l ≡ take n after
  stamps_part =
      let f = parted_leading 0 l p a r start in
      let g = parted_leading 0 after c n (ap (rising_from 0) e ∙ rising_drop 0 a l r) count in
      between 0 p c l r ∙ ap (λ (i : ℕ). take (leading c (drop i l)) (drop i l)) (sym f) ∙ ap (λ (m : List ℕ). take (leading c m) m) (sym e)
      ∙ ap (λ (i : ℕ). take i after) (sym g)

  stamps_count : length (stamps_in p c l) ≡ n
  stamps_count = ap length stamps_part ∙ length-take-le n after count.inside

  pub speaks_all : n ≤ 16 → Speaks l p c (take n after) c
  speaks_all k =
      let m = stamps_count in
      record {
        few = omega (arith, length-take-le n after count.inside);
        chosen = sym stamps_part ∙ sym (take_all 16 (stamps_in p c l) (omega arith));
        curr_is = rw (le-ltb 16 (length (stamps_in p c l)) (omega arith));
      }

  pub speaks_sixteen : 16 < n → Speaks l p c (take 16 after) (get_or after 15 0)
  speaks_sixteen k =
      let m = stamps_count in
      let i = count.inside in
      record {
        few = omega (arith, length-take-le 16 after (omega arith));
        chosen = sym (take-take 16 n after (omega arith)) ∙ ap (take 16) (sym stamps_part);
        curr_is =
            rw (lt-ltb 16 (length (stamps_in p c l)) (omega arith))
            (sym (get_or-take n after 15 0 (omega arith)) ∙ ap (λ (ss : List ℕ). get_or ss 15 0) (sym stamps_part));
      }
