-- A line grows by one part behind another, and by one of many. Two tests of whether a part stands there. An answer is Done where its code is 0.
use Rattle.std.proofs.Common.{ℕ, true, List, [], ◌∷◌, ◌++◌, ◌+◌, ◌<◌, ◌≡◌, ap, ◌∙◌, sym, length, take, get_or, arith}
use mathlib.Core.Path.{refl}
use mathlib.Core.Bool.{Bool, false}
use mathlib.Core.List.{append_assoc, append-nil}
use native.Mathlib.Numerals.{add-one}
use borrow.Author.Tests.{eq-eqb}
use lib.ListN.{length-take}
use lib.Seq.{take-suc}
use Rattle.answers.specs.Says.{text, decimal, spaced}
use Rattle.answers.specs.Records.{write_text, writes_text}
use Rattle.answers.specs.Hex.{hex_pair, hex_of}
use Rattle.model.specs.Lists.{both}
use Rattle.model.specs.Answers.{code_of, is_done}
use Rattle.model.specs.declared.Answer.{Answer}

-- xs, behind it a, behind that b; and a with b is c
pub then_all : (xs a b : List ℕ) {c ys zs : List ℕ} → ys ≡ xs ++ a → zs ≡ ys ++ b → a ++ b ≡ c → zs ≡ xs ++ c
then_all xs a b p q e = q ∙ ap (λ (l : List ℕ). l ++ b) p ∙ append_assoc xs a b ∙ ap (λ (l : List ℕ). xs ++ l) e

-- ---- one more number
spaced_behind : (ns : List ℕ) (n : ℕ) → spaced ns ++ (text " " ++ decimal n) ≡ spaced (ns ++ (n ∷ []))
spaced_behind [] n = sym (append-nil (text " " ++ decimal n))
spaced_behind (m ∷ ns) n = append_assoc (text " " ++ decimal m) (spaced ns) (text " " ++ decimal n) ∙ ap (λ (l : List ℕ). (text " " ++ decimal m) ++ l) (spaced_behind ns n)

pub spaced_next : (ns : List ℕ) (i : ℕ) → i < length ns → spaced (take i ns) ++ (text " " ++ decimal (get_or ns i 0)) ≡ spaced (take (i + 1) ns)
spaced_next ns i h = rw (add-one, take-suc ns i 0 h) (spaced_behind (take i ns) (get_or ns i 0))

-- ---- one more write
writes_behind : (os vs : List ℕ) (o v : ℕ) → length os ≡ length vs → writes_text os vs ++ write_text o v ≡ writes_text (os ++ (o ∷ [])) (vs ++ (v ∷ []))
writes_behind [] [] o v h = sym (append-nil (write_text o v))
writes_behind [] (w ∷ vs) o v h = absurd (omega arith)
writes_behind (p ∷ os) [] o v h = absurd (omega arith)
writes_behind (p ∷ os) (w ∷ vs) o v h = append_assoc (write_text p w) (writes_text os vs) (write_text o v) ∙ ap (λ (l : List ℕ). write_text p w ++ l) (writes_behind os vs o v (omega arith))

pub writes_next : (os vs : List ℕ) (i : ℕ) → length os ≡ length vs → i < length os
    → writes_text (take i os) (take i vs) ++ write_text (get_or os i 0) (get_or vs i 0) ≡ writes_text (take (i + 1) os) (take (i + 1) vs)
writes_next os vs i e h =
    let g : i < length vs = omega arith in
    let l : length (take i os) ≡ length (take i vs) = simp (length-take, e) in
    rw (add-one, take-suc os i 0 h, take-suc vs i 0 g) (writes_behind (take i os) (take i vs) (get_or os i 0) (get_or vs i 0) l)

-- ---- one more byte in hexadecimal
hex_behind : (bs : List ℕ) (b : ℕ) → hex_of bs ++ hex_pair b ≡ hex_of (bs ++ (b ∷ []))
hex_behind [] b = sym (append-nil (hex_pair b))
hex_behind (c ∷ bs) b = append_assoc (hex_pair c) (hex_of bs) (hex_pair b) ∙ ap (λ (l : List ℕ). hex_pair c ++ l) (hex_behind bs b)

pub hex_next : (bs : List ℕ) (i : ℕ) → i < length bs → hex_of (take i bs) ++ hex_pair (get_or bs i 0) ≡ hex_of (take (i + 1) bs)
hex_next bs i h = rw (add-one, take-suc bs i 0 h) (hex_behind (take i bs) (get_or bs i 0))

-- ---- two tests
pub both_yes : {b c : Bool} → b ≡ true → c ≡ true → both b c ≡ true
both_yes e f = rw (e, f)

pub left_no : {b : Bool} (c : Bool) → b ≡ false → both b c ≡ false
left_no c e = rw e

pub right_no : (b : Bool) {c : Bool} → c ≡ false → both b c ≡ false
right_no true e = e
right_no false e = refl

-- ---- whether an answer is Done
module _ (a : Answer) {k : ℕ} (e : k ≡ code_of a) where
  pub is_done_lem : k ≡ 0 → is_done a ≡ true
  is_done_lem z = eq-eqb (code_of a) 0 (sym e ∙ z)
