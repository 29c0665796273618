-- One turn of each loop over big-endian bytes, over the width.
use Prim.Native.Nat.{ℕ, zero, suc, ◌+◌, ◌*◌, ◌/◌, ◌%◌, ◌^◌, ◌-◌, ◌<◌, ◌≤◌}
use mathlib.Core.Path.{◌≡◌, refl, ap, ◌∙◌}
use mathlib.Core.List.{List, [], ◌∷◌, ◌++◌, append_assoc}
use native.Mathlib.Nat.{pow-suc, add-suc, pow-le-pow_right, mul-suc}
use native.Mathlib.Numerals.{add-one}
use native.Mathlib.Omega.{arith}
use lib.ListN.{length, take, drop, set, length-append, length-set}
use lib.Seq.{take-set-le, drop-cons, get_or-set_same, drop-set-lt, take-suc-set, drop-drop}
use lib.Dec.{lit<}
use Rattle.model.specs.Bytes.{be, from_be, column, write_at}

pub be_length : (w x : ℕ) → length (be w x) ≡ w
be_length zero x = refl
be_length (suc w) x = let ih = be_length w (x / 256) in simp length-append (omega arith)

pub drop_set_here : (l : List ℕ) (n a : ℕ) → n < length l → drop n (set l n a) ≡ a ∷ drop (suc n) l
drop_set_here l n a h =
    let h' : n < length (set l n a) = simp length-set h in
    let o : n < suc n = omega arith in
    rw (drop-cons (set l n a) n 0, get_or-set_same l n a 0, drop-set-lt (suc n) l n a)

-- one turn of the writer: the last of the suc k bytes of y goes to its place
pub put_one : (at k y : ℕ) (j : List ℕ) → at + suc k ≤ length j → write_at at (be k (y / 256)) (set j (at + k) (y % 256)) ≡ write_at at (be (suc k) y) j
put_one at k y j h =
    let b : at ≤ at + k = omega arith in
    let l : at + k < length j = omega arith in
    let m = be_length k (y / 256) in
    let n : length (be k (y / 256) ++ (y % 256 ∷ [])) ≡ suc k = simp length-append (omega arith) in
    rw (m, n, take-set-le at j (at + k) (y % 256) b, drop_set_here j (at + k) (y % 256) l, add-suc at k, append_assoc)

pub put_turn : (at k y : ℕ) (j : List ℕ) → 0 < k → at + k ≤ length j → write_at at (be (k - 1) (y / 256)) (set j (at + (k - 1)) (y % 256)) ≡ write_at at (be k y) j
put_turn at k y j h l =
    let e : suc (k - 1) ≡ k = omega arith in
    let l' : at + suc (k - 1) ≤ length j = omega arith in
    put_one at (k - 1) y j l' ∙ ap (λ (n : ℕ). write_at at (be n y) j) e

-- the reader's number has room, with one byte more
pub room : (i w a b : ℕ) → i < w → w ≤ 8 → a < 256 ^ i → b < 256 → (a * 256 + b < 256 ^ (i + 1)) × (a * 256 + b < 2 ^ 64)
room i w a b h l p q =
    let e : 256 ^ (i + 1) ≡ 256 ^ i * 256 = ap (λ (n : ℕ). 256 ^ n) (add-one i) ∙ pow-suc 256 i in
    let i8 : i + 1 ≤ 8 = omega arith in
    let m : 256 ^ (i + 1) ≤ 256 ^ 8 = pow-le-pow_right (lit< tt) i8 in
    (omega arith, omega arith)

-- ---- a column: what is filled, with what is left to read, stays the same by a turn
module _ (w stride n i at : ℕ) (s out : List ℕ) (h : i < n) (l : length out ≡ n) where
  pub column_turn : take (i + 1) (set out i (from_be (take w (drop (at + stride * i) s)))) ++ column w stride (n - (i + 1)) (drop (at + stride * (i + 1)) s)
      ≡ take i out ++ column w stride (n - i) (drop (at + stride * i) s)
  column_turn =
      let e : n - i ≡ suc (n - suc i) = omega arith in
      let p : stride * suc i ≡ stride * i + stride = mul-suc stride i in
      let q : at + (stride * i + stride) ≡ at + stride * i + stride = omega arith in
      let k : i < length out = omega arith in
      rw (add-one, e, p, q, take-suc-set, append_assoc, drop-drop stride (at + stride * i) s)
