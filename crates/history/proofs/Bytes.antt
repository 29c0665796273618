-- The laws of big-endian bytes, over the width.
use Prim.Native.Nat.{ℕ, zero, suc, ◌+◌, ◌*◌, ◌/◌, ◌%◌, ◌^◌, ◌<◌, ◌≤◌}
use mathlib.Core.Path.{◌≡◌, refl, ap, sym, ◌∙◌, subst}
use mathlib.Core.List.{List, [], ◌∷◌, ◌++◌, append_assoc, append-nil}
use native.Mathlib.Nat.{pow-suc, mul_assoc, add-zero, zero-add, pow-le-pow_right}
use native.Mathlib.Omega.{arith}
use lib.ListN.{length, take, drop, length-append, length-take, length-drop, take-append-drop}
use lib.Seq.{length-take-le, drop-drop}
use lib.Dec.{lit<}
use Rattle.model.specs.Bytes.{be, from_be_after, from_be, column}
use Rattle.history.specs.Words.{Below, Bytes}
use Rattle.history.proofs.Lists.{all_append, all_take, all_drop}

-- ---- lists of numbers below a bound
pub below_take : (n i : ℕ) (l : List ℕ) → Below n l → Below n (take i l)
below_take n i l h = all_take (λ x. x < n) i l h

pub below_drop : (n i : ℕ) (l : List ℕ) → Below n l → Below n (drop i l)
below_drop n i l h = all_drop (λ x. x < n) i l h

-- ---- the bytes of a number
pub be_length : (w x : ℕ) → length (be w x) ≡ w
be_length zero x = refl
be_length (suc w) x = let ih = be_length w (x / 256) in simp length-append (omega arith)

pub be_bytes : (w x : ℕ) → Bytes (be w x)
be_bytes zero x = tt
be_bytes (suc w) x = all_append (λ x. x < 256) (be w (x / 256)) (x % 256 ∷ []) (be_bytes w (x / 256)) (omega arith, tt)

pub bytes_then : (w x : ℕ) (bs : List ℕ) → Bytes bs → Bytes (be w x ++ bs)
bytes_then w x bs h = all_append (λ x. x < 256) (be w x) bs (be_bytes w x) h

pub be_one : (x : ℕ) → x < 256 → be 1 x ≡ x ∷ []
be_one x h = let e : x % 256 ≡ x = omega arith in rw e

pub from_be_snoc : (a : ℕ) (l : List ℕ) (b : ℕ) → from_be_after a (l ++ (b ∷ [])) ≡ from_be_after a l * 256 + b
from_be_snoc a [] b = refl
from_be_snoc a (x ∷ l) b = from_be_snoc (a * 256 + x) l b

round_trip_after : (w a x : ℕ) → x < 256 ^ w → from_be_after a (be w x) ≡ a * 256 ^ w + x
round_trip_after zero a x h = omega arith
round_trip_after (suc w) a x h =
    let p : 256 ^ suc w ≡ 256 ^ w * 256 = pow-suc 256 w in
    let q : x / 256 < 256 ^ w = omega arith in
    let ih = round_trip_after w a (x / 256) q in
    let m : a * (256 ^ w * 256) ≡ a * 256 ^ w * 256 = sym (mul_assoc a (256 ^ w) 256) in
    from_be_snoc a (be w (x / 256)) (x % 256) ∙ rw p (omega arith)

-- what is written is read
pub round_trip : (w x : ℕ) → x < 256 ^ w → from_be (be w x) ≡ x
round_trip w x h = round_trip_after w 0 x h ∙ omega arith

-- what is read is written
back_after : (k a : ℕ) (bs : List ℕ) → Bytes bs → be (k + length bs) (from_be_after a bs) ≡ be k a ++ bs
back_after k a [] h = rw (add-zero, append-nil)
back_after k a (b ∷ bs) h =
    let l : b < 256 = h.0 in
    let d : (a * 256 + b) / 256 ≡ a = omega arith in
    let m : (a * 256 + b) % 256 ≡ b = omega arith in
    let e : k + suc (length bs) ≡ suc k + length bs = omega arith in
    rw e (back_after (suc k) (a * 256 + b) bs h.1 ∙ rw (d, m, append_assoc))

pub back : (bs : List ℕ) → Bytes bs → be (length bs) (from_be bs) ≡ bs
back bs h = rw zero-add at (back_after 0 0 bs h)

pub back_take : (w : ℕ) (bs : List ℕ) → Bytes bs → w ≤ length bs → be w (from_be (take w bs)) ≡ take w bs
back_take w bs h l =
    subst (λ (n : ℕ). be n (from_be (take w bs)) ≡ take w bs) (length-take-le w bs l) (back (take w bs) (below_take 256 w bs h))

-- a number that stands at i, and what is behind it
pub field : (w i x : ℕ) (bs : List ℕ) → Bytes bs → i + w ≤ length bs → from_be (take w (drop i bs)) ≡ x → be w x ++ drop (i + w) bs ≡ drop i bs
field w i x bs h l e =
    let n = ap (be w) (sym e) ∙ back_take w (drop i bs) (below_drop 256 i bs h) (simp length-drop (omega arith)) in
    (λ j. n j ++ sym (drop-drop w i bs) j) ∙ take-append-drop w (drop i bs)

bound_after : (k a : ℕ) (bs : List ℕ) → Bytes bs → a < 256 ^ k → from_be_after a bs < 256 ^ (k + length bs)
bound_after k a [] h l = rw add-zero l
bound_after k a (b ∷ bs) h l =
    let q : b < 256 = h.0 in
    let p : 256 ^ suc k ≡ 256 ^ k * 256 = pow-suc 256 k in
    let e : k + suc (length bs) ≡ suc k + length bs = omega arith in
    rw e (bound_after (suc k) (a * 256 + b) bs h.1 (omega arith))

pub from_be_bound : (bs : List ℕ) → Bytes bs → from_be bs < 256 ^ length bs
from_be_bound bs h = rw zero-add at (bound_after 0 0 bs h (lit< tt))

pub bound_take : (w : ℕ) (bs : List ℕ) → Bytes bs → from_be (take w bs) < 256 ^ w
bound_take w bs h =
    let l : length (take w bs) ≤ w = simp length-take (omega arith) in
    let p : 256 ^ length (take w bs) ≤ 256 ^ w = pow-le-pow_right (lit< tt) l in
    omega (arith, from_be_bound (take w bs) (below_take 256 w bs h))

-- ---- columns
pub column_length : (w s n : ℕ) (b : List ℕ) → length (column w s n b) ≡ n
column_length w s zero b = refl
column_length w s (suc n) b = ap suc (column_length w s n (drop s b))

pub column_below : (w s n : ℕ) (b : List ℕ) → Bytes b → Below (256 ^ w) (column w s n b)
column_below w s zero b h = tt
column_below w s (suc n) b h = (bound_take w b h, column_below w s n (drop s b) (below_drop 256 s b h))
