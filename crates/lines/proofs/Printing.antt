-- A number in its decimal digits, with no leading zero, reads back as itself, and so do bytes in hex digits of either case.
use Prim.Native.Nat.{ℕ, zero, suc, ◌+◌, ◌*◌, ◌-◌, ◌/◌, ◌%◌, ◌^◌, ◌<◌, ◌≤◌}
use mathlib.Core.Path.{◌≡◌, refl, ap, sym, ◌∙◌}
use mathlib.Core.Bool.{Bool, true, false, true≢false}
use mathlib.Core.List.{List, [], ◌∷◌, ◌++◌}
use native.Mathlib.Nat.{pow-suc, not-suc-le-zero}
use native.Mathlib.Omega.{arith}
use lib.Dec.{ltb}
use lib.ListN.{length, length-append}
use lib.Seq.{take_all}
use borrow.Author.Tests.{lt-ltb, ltb-true, ltb-false, le-leb, lt-leb}
use Rattle.model.specs.Lists.{pick, both, all_b}
use Rattle.lines.specs.Words.{between, digit, hex_digit, leading}
use Rattle.lines.specs.Numbers.{decimal, number_at}
use Rattle.lines.specs.Hex.{hex_at, hex_value, hex_pairs, hex_bytes}
use Rattle.std.specs.Prelude.{Ok}
use Rattle.lines.proofs.Cases.{by_test}
use Rattle.lines.proofs.Digits.{say_sized}
use Rattle.lines.proofs.Hexes.{say_part}

-- the digits of a number of at most so many
abbrev pub digits_of : ℕ → ℕ → List ℕ
digits_of zero n = []
digits_of (suc k) n = pick (ltb n 10) ((48 + n) ∷ []) (digits_of k (n / 10) ++ ((48 + n % 10) ∷ []))

decimal_more : (m : ℕ) (bs : List ℕ) (b : ℕ) → decimal m (bs ++ (b ∷ [])) ≡ decimal m bs * 10 + (b - 48)
decimal_more m [] b = refl
decimal_more m (x ∷ bs) b = decimal_more (m * 10 + (x - 48)) bs b

digit_of : (d : ℕ) → d < 10 → digit (48 + d) ≡ true
digit_of d h =
    let l : 48 ≤ 48 + d = omega arith in
    let u : 48 + d ≤ 57 = omega arith in
    rw (le-leb 48 (48 + d) l, le-leb (48 + d) 57 u)

all_more : (bs : List ℕ) (b : ℕ) → all_b digit bs ≡ true → digit b ≡ true → all_b digit (bs ++ (b ∷ [])) ≡ true
all_more [] b p q = rw q
all_more (x ∷ bs) b p q = by_test (digit x) (λ e. rw e (all_more bs b (rw e at p) q)) (λ e. absurd (true≢false (sym p ∙ rw e)))

all_leading : (bs : List ℕ) → all_b digit bs ≡ true → leading digit bs ≡ length bs
all_leading [] p = refl
all_leading (x ∷ bs) p = by_test (digit x) (λ e. rw e (ap suc (all_leading bs (rw e at p)))) (λ e. absurd (true≢false (sym p ∙ rw e)))

digits_all : (k n : ℕ) → all_b digit (digits_of k n) ≡ true
digits_all zero n = refl
digits_all (suc k) n =
    by_test (ltb n 10)
    (λ e. rw (e, digit_of n (ltb-true n 10 e)))
    (λ e. rw e (all_more (digits_of k (n / 10)) (48 + n % 10) (digits_all k (n / 10)) (digit_of (n % 10) (omega arith))))

digits_value : (k n : ℕ) → n < 10 ^ k → decimal 0 (digits_of k n) ≡ n
digits_value zero n h = let p : n < 1 = h in omega arith
digits_value (suc k) n h =
    let p : 10 ^ suc k ≡ 10 ^ k * 10 = pow-suc 10 k in
    by_test (ltb n 10)
    (λ e. rw e (omega arith))
    (λ e.
    let ih = digits_value k (n / 10) (omega arith) in
    rw (e, decimal_more, ih) (omega arith))

digits_some : (k n : ℕ) → length (digits_of (suc k) n) ≡ 0 → ⊥
digits_some k n h =
    by_test (ltb n 10)
    (λ e. let z : ◌≡◌ {A = ℕ} 1 0 = rw e at h in omega arith)
    (λ e. let z = simp (e, length-append) at h in omega arith)

pub reads_back : (column k n : ℕ) → 0 < k → n < 10 ^ k → n < 2 ^ 64 → number_at column (digits_of k n) ≡ Ok n
reads_back column zero n z h l = absurd (not-suc-le-zero z)
reads_back column (suc k) n z h l =
    let a = sym (all_leading (digits_of (suc k) n) (digits_all (suc k) n)) in
    let v = digits_value (suc k) n h in
    let m : decimal 0 (digits_of (suc k) n) < 2 ^ 64 = omega arith in
    sym (say_sized column (digits_of (suc k) n) (digits_some k n) (length (digits_of (suc k) n)) a (omega arith))
    ∙ rw (lt-ltb (decimal 0 (digits_of (suc k) n)) (2 ^ 64) m) (ap Ok v)

-- ---- the hex digits of bytes, in upper case or in lower
abbrev pub hex_of : Bool → ℕ → ℕ
hex_of upper d = pick (ltb d 10) (48 + d) (pick upper (55 + d) (87 + d))

abbrev pub hex_digits : Bool → List ℕ → List ℕ
hex_digits upper [] = []
hex_digits upper (b ∷ bs) = hex_of upper (b / 16) ∷ hex_of upper (b % 16) ∷ hex_digits upper bs

-- a byte is one below 256
abbrev pub byte_b : ℕ → Bool
byte_b b = ltb b 256

both_no : (b : Bool) → both b false ≡ false
both_no true = refl
both_no false = refl

module _ (low high b : ℕ) where
  is_between : low ≤ b → b ≤ high → between low high b ≡ true
  is_between l h = rw (le-leb low b l, le-leb b high h)

  is_above : high < b → between low high b ≡ false
  is_above h = rw (lt-leb b high h, both_no)

  is_below : b < low → between low high b ≡ false
  is_below h = rw (lt-leb low b h)

-- a digit of either case is one, and counts what it should
abbrev Counts : ℕ → ℕ → Type 0
Counts c d = (hex_digit c ≡ true) × (hex_value c ≡ d)

letter : (upper : Bool) (d : ℕ) → 10 ≤ d → d < 16 → Counts (pick upper (55 + d) (87 + d)) d
letter true d l h =
    let f = is_above 48 57 (55 + d) (omega arith) in
    let g = is_below 97 102 (55 + d) (omega arith) in
    let t = is_between 65 70 (55 + d) (omega arith) (omega arith) in
    (rw (f, g, t), rw (f, g, t) (omega arith))
letter false d l h =
    let f = is_above 48 57 (87 + d) (omega arith) in
    let t = is_between 97 102 (87 + d) (omega arith) (omega arith) in
    (rw (f, t), rw (f, t) (omega arith))

figure : (d : ℕ) → d < 10 → Counts (48 + d) d
figure d h =
    let t = is_between 48 57 (48 + d) (omega arith) (omega arith) in
    (rw t, rw t (omega arith))

counts : (upper : Bool) (d : ℕ) → d < 16 → Counts (hex_of upper d) d
counts upper d h =
    by_test (ltb d 10)
    (λ e. rw e (figure d (ltb-true d 10 e)))
    (λ e. rw e (letter upper d (ltb-false d 10 e) h))

module _ (upper : Bool) where
  hex_length : (bs : List ℕ) → length (hex_digits upper bs) ≡ 2 * length bs
  hex_length [] = refl
  hex_length (b ∷ bs) = let ih = hex_length bs in omega arith

  hex_leading : (bs : List ℕ) → all_b byte_b bs ≡ true → leading hex_digit (hex_digits upper bs) ≡ length (hex_digits upper bs)
  hex_leading [] h = refl
  hex_leading (b ∷ bs) h =
      by_test (byte_b b)
      (λ e.
      let l : b < 256 = ltb-true b 256 e in
      let ih = hex_leading bs (rw e at h) in
      rw ((counts upper (b / 16) (omega arith)).0, (counts upper (b % 16) (omega arith)).0, ih))
      (λ e. absurd (true≢false (sym h ∙ rw e)))

  hex_pairs_lem : (bs : List ℕ) → all_b byte_b bs ≡ true → hex_pairs (hex_digits upper bs) ≡ bs
  hex_pairs_lem [] h = refl
  hex_pairs_lem (b ∷ bs) h =
      by_test (byte_b b)
      (λ e.
      let l : b < 256 = ltb-true b 256 e in
      let ih = hex_pairs_lem bs (rw e at h) in
      let v : 16 * (b / 16) + b % 16 ≡ b = omega arith in
      rw ((counts upper (b / 16) (omega arith)).1, (counts upper (b % 16) (omega arith)).1, ih, v))
      (λ e. absurd (true≢false (sym h ∙ rw e)))

  pub hex_reads_back : (column : ℕ) (bs : List ℕ) → all_b byte_b bs ≡ true → length bs ≤ 512
      → (hex_at column (hex_digits upper bs) ≡ Ok (record { from = column - 1; to = column - 1 + 2 * length bs })) × (hex_bytes (hex_digits upper bs) ≡ bs)
  unfolding hex_bytes
  hex_reads_back column bs h l =
      let n = hex_length bs in
      let a = sym (hex_leading bs h) in (
        sym (say_part column (hex_digits upper bs) (omega arith) (omega arith) (λ e. omega arith)) ∙ rw n,
        rw (hex_pairs_lem bs h) (take_all 512 bs l),
      )
