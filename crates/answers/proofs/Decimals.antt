-- A number's digits: the last one stands behind those of a tenth, a word has at most 20 of them, every one is a digit, and read back they make the number.
use Prim.Native.Nat.{ℕ, zero, suc, ◌+◌, ◌*◌, ◌-◌, ◌/◌, ◌%◌, ◌^◌, ◌≤◌, ◌<◌}
use mathlib.Core.Path.{◌≡◌, refl, sym, ap, ◌∙◌}
use mathlib.Core.Bool.{Bool, true, false}
use mathlib.Core.List.{List, [], ◌∷◌, ◌++◌}
use native.Mathlib.Nat.{div-eq_of_lt, mod-eq_of_lt, div-lt_self, div-le_self, div-add-mod', div-lt_iff_lt-mul, mod-lt, pow-suc}
use native.Mathlib.Omega.{arith}
use borrow.Author.Tests.{le-leb}
use lib.ListN.{length, length-append}
use Rattle.answers.specs.Says.{digit, digits, decimal, value_after, value_of, is_digit}
use Rattle.model.specs.Lists.{both, all_b}

digits_none : (k : ℕ) → digits k 0 ≡ []
digits_none zero = refl
digits_none (suc k) = refl

-- ---- n digits are enough for n
enough : (k m n : ℕ) → n ≤ k → n ≤ m → digits k n ≡ digits m n
enough zero m zero h g = sym (digits_none m)
enough zero m (suc n) h g = absurd (omega arith)
enough (suc k) m zero h g = sym (digits_none m)
enough (suc k) zero (suc n) h g = absurd (omega arith)
enough (suc k) (suc m) (suc n) h g =
    let l : suc n / 10 < suc n = div-lt_self (omega arith) (omega arith) in
    ap (λ (ds : List ℕ). ds ++ (digit (suc n % 10) ∷ [])) (enough k m (suc n / 10) (omega arith) (omega arith))

whole : (k n : ℕ) → 0 < n → n ≤ k → digits k n ≡ decimal n
unfolding decimal
whole k zero p h = absurd (omega arith)
whole zero (suc n) p h = absurd (omega arith)
whole (suc k) (suc n) p h =
    let l : suc n / 10 < suc n = div-lt_self (omega arith) (omega arith) in
    ap (λ (ds : List ℕ). ds ++ (digit (suc n % 10) ∷ [])) (enough k (suc n) (suc n / 10) (omega arith) (omega arith))

pub decimal_one : (n : ℕ) → n < 10 → decimal n ≡ digit n ∷ []
unfolding decimal
decimal_one n h = rw (div-eq_of_lt h, mod-eq_of_lt h, digits_none)

pub decimal_more : (n : ℕ) → 10 ≤ n → decimal n ≡ decimal (n / 10) ++ (digit (n % 10) ∷ [])
unfolding decimal
decimal_more n h = ap (λ (ds : List ℕ). ds ++ (digit (n % 10) ∷ [])) (whole n (n / 10) (omega arith) (div-le_self n 10))

-- ---- how many
digits_short : (w k n : ℕ) → n < 10 ^ w → length (digits k n) ≤ w
digits_short w zero n h = omega arith
digits_short w (suc k) zero h = omega arith
digits_short zero (suc k) (suc n) h = absurd (omega arith)
digits_short (suc w) (suc k) (suc n) h =
    let p : 10 ^ suc w ≡ 10 ^ w * 10 = pow-suc 10 w in
    let ih = digits_short w k (suc n / 10) ((div-lt_iff_lt-mul (omega arith)).1 (omega arith)) in
    simp length-append (omega arith)

pub decimal_short : (n : ℕ) → n < 2 ^ 64 → length (decimal n) ≤ 20
unfolding decimal
decimal_short n h =
    let s = digits_short 19 n (n / 10) (omega arith) in
    simp length-append (omega arith)

pub tenth_length : (n : ℕ) → 10 ≤ n → length (decimal n) ≡ length (decimal (n / 10)) + 1
tenth_length n h = ap length (decimal_more n h) ∙ simp length-append (omega arith)

-- a number's digits behind a text, as long as those of any word
pub number_fits : (xs : List ℕ) {ys : List ℕ} (n : ℕ) → n < 2 ^ 64 → ys ≡ xs ++ decimal n → length ys ≤ length xs + 20
number_fits xs n l e =
    let s = decimal_short n l in
    let f = ap length e in
    let g = simp length-append at f in
    omega arith

-- ---- every byte is a digit
both_next : (b c d : Bool) → both b c ≡ true → (c ≡ true → d ≡ true) → both b d ≡ true
both_next true c d h g = g h
both_next false c d h g = h

all_next : (f : ℕ → Bool) (xs : List ℕ) (x : ℕ) → all_b f xs ≡ true → f x ≡ true → all_b f (xs ++ (x ∷ [])) ≡ true
all_next f [] x h e = rw e
all_next f (y ∷ ys) x h e = both_next (f y) (all_b f ys) (all_b f (ys ++ (x ∷ []))) h (λ g. all_next f ys x g e)

last_digit : (n : ℕ) → is_digit (digit (n % 10)) ≡ true
last_digit n =
    let h : n % 10 < 10 = mod-lt n (omega arith) in
    rw (le-leb 48 (48 + n % 10) (omega arith), le-leb (48 + n % 10) 57 (omega arith))

digits_all : (k n : ℕ) → all_b is_digit (digits k n) ≡ true
digits_all zero n = refl
digits_all (suc k) zero = refl
digits_all (suc k) (suc n) = all_next is_digit (digits k (suc n / 10)) (digit (suc n % 10)) (digits_all k (suc n / 10)) (last_digit (suc n))

pub decimal_digits : (n : ℕ) → all_b is_digit (decimal n) ≡ true
unfolding decimal
decimal_digits n = all_next is_digit (digits n (n / 10)) (digit (n % 10)) (digits_all n (n / 10)) (last_digit n)

-- ---- the digits of n make n again
value_next : (a : ℕ) (ds : List ℕ) (d : ℕ) → value_after a (ds ++ (digit d ∷ [])) ≡ value_after a ds * 10 + d
value_next a [] d = omega arith
value_next a (e ∷ ds) d = value_next (a * 10 + (e - 48)) ds d

digits_value : (k n : ℕ) → n ≤ k → value_of (digits k n) ≡ n
digits_value zero zero h = refl
digits_value zero (suc n) h = absurd (omega arith)
digits_value (suc k) zero h = refl
digits_value (suc k) (suc n) h =
    let l : suc n / 10 < suc n = div-lt_self (omega arith) (omega arith) in
    let ih = digits_value k (suc n / 10) (omega arith) in
    value_next 0 (digits k (suc n / 10)) (suc n % 10) ∙ omega (arith, ih, div-add-mod' (suc n) 10)

pub decimal_value : (n : ℕ) → value_of (decimal n) ≡ n
unfolding decimal
decimal_value n =
    let s = digits_value n (n / 10) (div-le_self n 10) in
    value_next 0 (digits n (n / 10)) (n % 10) ∙ omega (arith, s, div-add-mod' n 10)
