-- Hex words: what is said of one, test by test, and its bytes, one at a time.
use Prim.Native.Nat.{ℕ, suc, ◌+◌, ◌*◌, ◌-◌, ◌/◌, ◌%◌, ◌<◌, ◌≤◌, min}
use mathlib.Core.Path.{◌≡◌, refl, ap, sym, ◌∙◌}
use mathlib.Core.List.{List, [], ◌∷◌, ◌++◌, append_assoc, append-nil}
use native.Mathlib.Numerals.{add-one}
use native.Mathlib.Omega.{arith}
use lib.Dec.{ltb}
use Rattle.std.specs.Prelude.{Ok}
use lib.ListN.{length, take, drop, set, get_or, length-drop}
use lib.Seq.{drop-cons, take-suc-set, take-nil, length-take-le}
use borrow.Author.Tests.{le-ltb, ne_eqb, ltb-true, ltb-false}
use Rattle.lines.specs.Words.{hex_digit, leading}
use Rattle.lines.specs.Hex.{hex_at, hex_byte, hex_pairs, hex_bytes, Decoded}
use Rattle.lines.proofs.Cases.{by_test}

-- ---- an even number of hex digits, and not too many
pub say_part : (column : ℕ) (s : List ℕ) → length s ≤ leading hex_digit s → length s ≤ 1024 → (length s % 2 ≡ 1 → ⊥)
    → Ok (record { from = column - 1; to = column - 1 + length s }) ≡ hex_at column s
say_part column s l g o = rw (le-ltb (leading hex_digit s) (length s) l, le-ltb 1024 (length s) g, ne_eqb (length s % 2) 1 o)

-- ---- the bytes: those that are written, with those of the digits that are left, are all of them
abbrev pub Pairing : List ℕ → List ℕ → ℕ → Type 0
Pairing word out i = take i out ++ take (512 - i) (hex_pairs (drop (2 * i) word)) ≡ hex_bytes word

pub pair_start : (word out : List ℕ) → Pairing word out 0
unfolding hex_bytes
pair_start word out = refl

next_pair : (w : List ℕ) (k : ℕ) → k + 1 < length w → hex_pairs (drop k w) ≡ hex_byte (get_or w k 0) (get_or w (k + 1) 0) ∷ hex_pairs (drop (k + 2) w)
next_pair w k h =
    let a : k < length w = omega arith in
    let b : suc k < length w = omega arith in
    let c : k + 2 ≡ suc (suc k) = omega arith in
    rw (c, add-one, drop-cons w k 0 a, drop-cons w (suc k) 0 b)

pub pair_turn : (word out : List ℕ) (i : ℕ) → i < 512 → length out ≡ 512 → 2 * i + 1 < length word → Pairing word out i
    → Pairing word (set out i (hex_byte (get_or word (2 * i) 0) (get_or word (2 * i + 1) 0))) (i + 1)
pair_turn word out i h l g p =
    let k : i < length out = omega arith in
    let m : 512 - i ≡ suc (512 - suc i) = omega arith in
    let n : 2 * suc i ≡ 2 * i + 2 = omega arith in
    let q = rw (next_pair word (2 * i) g, m) at p in
    rw (add-one i, take-suc-set out i _ k, n, append_assoc) q

few_pairs : (w : List ℕ) → length w ≤ 1 → hex_pairs w ≡ []
few_pairs [] h = refl
few_pairs (a ∷ []) h = refl
few_pairs (a ∷ b ∷ bs) h = absurd (omega arith)

-- nothing is left to write
abbrev Written : List ℕ → ℕ → Type 0
Written word i = take (512 - i) (hex_pairs (drop (2 * i) word)) ≡ []

pub pair_short : (word : List ℕ) (i : ℕ) → length word ≤ 2 * i + 1 → Written word i
pair_short word i h =
    let l : length (drop (2 * i) word) ≤ 1 = simp length-drop (omega arith) in
    rw (few_pairs (drop (2 * i) word) l, take-nil)

pub pair_full : (word : List ℕ) (i : ℕ) → 512 ≤ i → Written word i
pair_full word i h = let z : 512 - i ≡ 0 = omega arith in rw z

pub pair_none : (word : List ℕ) (i : ℕ) → i ≡ min 512 (length word / 2) → Written word i
pair_none word i h = by_test (ltb i 512) (λ e. pair_short word i (omega (arith, ltb-true i 512 e))) (λ e. pair_full word i (ltb-false i 512 e))

pub decoded : (word out : List ℕ) (i : ℕ) → i ≤ 512 → length out ≡ 512 → Pairing word out i → Written word i → Decoded word out i
decoded word out i h l p e =
    let q : take i out ≡ hex_bytes word = sym (append-nil (take i out)) ∙ (rw e at p) in
    let k : length (take i out) ≡ i = length-take-le i out (omega arith) in
    record { bytes = q; count = sym k ∙ ap length q; most = h; room = l; counted = sym k }
