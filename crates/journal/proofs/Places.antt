-- Bytes written at a place: what is written, with what is left to write, is the whole. And how long a record's bytes are.
use Prim.Native.Nat.{ℕ, ◌+◌, ◌*◌, ◌≤◌, ◌<◌}
use mathlib.Core.Bool.{Bool, true, false}
use mathlib.Core.Path.{◌≡◌, refl, ap, sym, ◌∙◌}
use mathlib.Core.List.{List, [], ◌∷◌, ◌++◌, append_assoc}
use native.Mathlib.Nat.{add_assoc, add-zero}
use native.Mathlib.Numerals.{add-one}
use native.Mathlib.Omega.{arith}
use lib.ListN.{length, take, drop, length-append, length-take, length-drop, get_or, take-append-drop, drop_of_length-le}
use lib.Seq.{take_at, drop_at, take-take, take-append-le, length-take-le, drop-append-add, drop-drop, drop-cons}
use lib.Dec.{eqb}
use Rattle.fields.proofs.Laws.{be_length}
use Rattle.model.specs.Lists.{pick}
use Rattle.model.specs.Bytes.{be, write_at}
use Rattle.model.specs.Changes.{Write, Change, commit, gossip, flush, paired}
use Rattle.model.specs.Records.{length_of, write_bytes, stamp_bytes, encode}
use Rattle.model.specs.Calls.{version, written, reached}
use Rattle.journal.specs.Places.{Moved, Appended}

-- ---- xs at `at`, and ys behind it
write_write : (at : ℕ) (xs ys j : List ℕ) → at + length xs + length ys ≤ length j → write_at (at + length xs) ys (write_at at xs j) ≡ write_at at (xs ++ ys) j
write_write at xs ys j h =
    let l : length (take at j ++ xs) ≡ at + length xs = simp (length-append, length-take) (omega arith) in
    let w : write_at at xs j ≡ (take at j ++ xs) ++ drop (at + length xs) j = sym (append_assoc (take at j) xs (drop (at + length xs) j)) in
    let t : take (at + length xs) ((take at j ++ xs) ++ drop (at + length xs) j) ≡ take at j ++ xs = take_at _ _ (at + length xs) l in
    let d : drop (at + length xs + length ys) ((take at j ++ xs) ++ drop (at + length xs) j) ≡ drop (length ys) (drop (at + length xs) j) =
    ap (λ (n : ℕ). drop (n + length ys) ((take at j ++ xs) ++ drop (at + length xs) j)) (sym l) ∙ drop-append-add (take at j ++ xs) (drop (at + length xs) j) (length ys) in
    rw (w, t, d, drop-drop) (simp (append_assoc, length-append, add_assoc))

moved_length : {xs j j₁ : List ℕ} {at at₁ : ℕ} → Moved xs j at j₁ at₁ → at + length xs ≤ length j → length j₁ ≡ length j
moved_length m h = ap length m.journal ∙ simp (length-append, length-take, length-drop) (omega arith)

pub moved_none : (j : List ℕ) (at : ℕ) → Moved [] j at j at
moved_none j at = record { journal = rw add-zero (sym (take-append-drop at j)); place = omega arith }

pub moved_then : {xs ys j j₁ j₂ : List ℕ} {at at₁ at₂ : ℕ} → Moved xs j at j₁ at₁ → Moved ys j₁ at₁ j₂ at₂
    → at + length xs + length ys ≤ length j → Moved (xs ++ ys) j at j₂ at₂
moved_then {xs} {ys} {j} {j₁} {j₂} {at} m n h = record {
  journal = n.journal ∙ rw (m.place, m.journal) (write_write at xs ys j h);
  place = simp length-append (omega arith);
}

-- xs before ys, which are there already
pub moved_before : {xs ys j j₁ j₂ : List ℕ} {at m end : ℕ} → Moved ys j m j₁ end → Moved xs j₁ at j₂ m → end ≤ length j → Moved (xs ++ ys) j at j₂ end
moved_before {xs} {ys} {j} {j₁} {j₂} {at} {m} p q h =
    let b = ys ++ drop (m + length ys) j in
    let l : length (take m j) ≡ m = length-take-le m j (omega arith) in
    let t : take at (take m j ++ b) ≡ take at j = take-append-le at (take m j) b (omega arith) ∙ take-take at m j (omega arith) in
    let d : drop (at + length xs) (take m j ++ b) ≡ b = drop_at (take m j) b (at + length xs) (omega arith) in
    let n : m + length ys ≡ at + length (xs ++ ys) = simp length-append (omega arith) in
    record { journal = q.journal ∙ rw (p.journal, t, d, append_assoc, sym n); place = p.place ∙ n }

-- a field at its place
pub field_moved : {j j₁ : List ℕ} (at w x : ℕ) {at₁ : ℕ} → at₁ ≡ at + w → j₁ ≡ write_at at (be w x) j → Moved (be w x) j at j₁ at₁
field_moved at w x p e = record { journal = e; place = omega (arith, be_length w x) }

-- ---- the whole is to be written to j₀ at at₀; it is, up to j and at, where the rest is left to be written
pub record Left (whole rest j₀ : List ℕ) (at₀ : ℕ) (j : List ℕ) (at : ℕ) : Type 0 where
  pub kept : length j ≡ length j₀
  pub fits : at + length rest ≤ length j
  pub goes : (j' : List ℕ) (at' : ℕ) → Moved rest j at j' at' → Moved whole j₀ at₀ j' at'

pub left_all : {xs j : List ℕ} {at : ℕ} → at + length xs ≤ length j → Left xs xs j at j at
left_all h = record { kept = refl; fits = h; goes = λ j' at' m. m }

pub left_next : {whole xs ys j₀ j j₁ : List ℕ} {at₀ at at₁ : ℕ} → Moved xs j at j₁ at₁ → Left whole (xs ++ ys) j₀ at₀ j at → Left whole ys j₀ at₀ j₁ at₁
left_next {whole} {xs} {ys} {j₀} {j} {j₁} {at₀} {at} {at₁} m l =
    let h : at + length xs + length ys ≤ length j = omega (arith, simp length-append at l.fits) in
    let k = moved_length m (omega arith) in
    record { kept = k ∙ l.kept; fits = omega arith; goes = λ j' at' n. l.goes j' at' (moved_then m n h) }

pub left_last : {whole xs j₀ j j₁ : List ℕ} {at₀ at at₁ : ℕ} → Moved xs j at j₁ at₁ → Left whole xs j₀ at₀ j at → Moved whole j₀ at₀ j₁ at₁
left_last m l = l.goes _ _ m

-- ---- the rows of a commit and of a gossip message, one at a time
module _ {whole j₀ j : List ℕ} {at₀ at : ℕ} (ss : List ℕ) (k : ℕ) (l : Left whole (stamp_bytes (drop k ss)) j₀ at₀ j at) where
  pub stamps_turn : k < length ss → Left whole (be 8 (get_or ss k 0) ++ stamp_bytes (drop (k + 1) ss)) j₀ at₀ j at
  stamps_turn h = rw add-one (rw (drop-cons ss k 0 h) at l)

  pub stamps_end : length ss ≤ k → Moved whole j₀ at₀ j at
  stamps_end h = left_last (moved_none j at) (rw (drop_of_length-le ss h) at l)

module _ {whole j₀ j : List ℕ} {at₀ at : ℕ} (os vs : List ℕ) (k : ℕ) (l : Left whole (write_bytes (paired (drop k os) (drop k vs))) j₀ at₀ j at) where
  pub writes_turn : {o v : ℕ} → k < length os → k < length vs → o ≡ get_or os k 0 → v ≡ get_or vs k 0
      → Left whole (be 2 o ++ (be 8 v ++ write_bytes (paired (drop (k + 1) os) (drop (k + 1) vs)))) j₀ at₀ j at
  writes_turn h i o v = rw (o, v, add-one) (rw (drop-cons os k 0 h, drop-cons vs k 0 i) at l)

  pub writes_end : length os ≤ k → Moved whole j₀ at₀ j at
  writes_end h = left_last (moved_none j at) (rw (drop_of_length-le os h) at l)

-- ---- how many bytes a record has
pub stamps_length : (ss : List ℕ) → length (stamp_bytes ss) ≡ 8 * length ss
stamps_length [] = refl
stamps_length (s ∷ ss) = let ih = stamps_length ss in omega arith

pub writes_length : (ws : List Write) → length (write_bytes ws) ≡ 10 * length ws
writes_length [] = refl
writes_length (w ∷ ws) = let ih = writes_length ws in omega arith

pub paired_length : (os vs : List ℕ) → length os ≡ length vs → length (paired os vs) ≡ length os
paired_length [] vs e = refl
paired_length (o ∷ os) [] e = absurd (omega arith)
paired_length (o ∷ os) (v ∷ vs) e = let ih = paired_length os vs (omega arith) in omega arith

pub encode_length : (c : Change) → length (encode c) ≡ 2 + length_of c
unfolding encode
encode_length (commit t ws) = omega (arith, writes_length ws)
encode_length (gossip prev curr stamps) = omega (arith, stamps_length stamps)
encode_length (flush p) = refl

-- a commit's fields as they are written, the count told by the list that is lent
pub commit_all : {j : List ℕ} {at : ℕ} (t : ℕ) (os vs : List ℕ) → length os ≡ length vs → at + (12 + 10 * length os) ≤ length j
    → Left (encode (commit t (paired os vs))) (be 2 (10 + 10 * length os) ++ (be 1 1 ++ (be 8 t ++ (be 1 (length os) ++ write_bytes (paired os vs))))) j at j at
unfolding encode
commit_all t os vs e h = rw (paired_length os vs e) (left_all (omega (arith, writes_length (paired os vs), paired_length os vs e)))

-- a gossip message's fields at their places: before prev the length and the kind, then the count and the stamps, and curr between
module _ {j₁ j₂ j₃ j₄ j₅ j₆ : List ℕ} {end : ℕ} (at p c : ℕ) (ss j : List ℕ) (h : at + (20 + 8 * length ss) ≤ length j)
    (prev : j₁ ≡ write_at (at + 3) (be 8 p) j) (size : j₂ ≡ write_at at (be 2 (18 + 8 * length ss)) j₁) (kind : j₃ ≡ write_at (at + 2) (be 1 2) j₂)
    (count : j₄ ≡ write_at (at + 19) (be 1 (length ss)) j₃) (stamps : Moved (stamp_bytes ss) j₄ (at + 20) j₅ end) (curr : j₆ ≡ write_at (at + 11) (be 8 c) j₅) where
  pub gossip_written : Moved (encode (gossip p c ss)) j at j₆ end
  unfolding encode
  gossip_written =
      let n = stamps_length ss in
      let prev_moved : Moved (be 8 p) j (at + 3) j₁ (at + 11) = field_moved (at + 3) 8 p (omega arith) prev in
      let kept = moved_length prev_moved (omega arith) in
      let kind_moved : Moved (be 1 2) j₂ (at + 2) j₃ (at + 3) = field_moved (at + 2) 1 2 (omega arith) kind in
      let front = moved_before prev_moved (moved_then (field_moved at 2 (18 + 8 * length ss) refl size) kind_moved (omega arith)) (omega arith) in
      let kept_all = moved_length front (omega arith) in
      let count_moved : Moved (be 1 (length ss)) j₃ (at + 19) j₄ (at + 20) = field_moved (at + 19) 1 (length ss) (omega arith) count in
      let curr_moved : Moved (be 8 c) j₅ (at + 11) j₆ (at + 19) = field_moved (at + 11) 8 c (omega arith) curr in
      moved_then front (moved_before (moved_then count_moved stamps (omega arith)) curr_moved (omega arith)) (omega arith)

-- ---- the version byte, and a record behind it
begun_bytes : (b : Bool) (xs : List ℕ) → pick b (version ∷ xs) xs ≡ pick b (version ∷ []) [] ++ xs
begun_bytes true xs = refl
begun_bytes false xs = refl

begun_length : (b : Bool) → length (pick b (version ∷ []) []) ≡ pick b 1 0
begun_length true = refl
begun_length false = refl

pub reached_is : (used : ℕ) (c : Change) → reached used c ≡ used + pick (eqb used 0) 1 0 + (2 + length_of c)
unfolding reached
reached_is used c = rw (begun_bytes (eqb used 0) (encode c), length-append) (omega (arith, begun_length (eqb used 0), encode_length c))

module _ {j j₁ : List ℕ} {at at₁ : ℕ} (c : Change) (m : Moved (pick (eqb at 0) (version ∷ []) []) j at j₁ at₁) (h : reached at c ≤ length j) where
  pub begun_fits : at₁ + (2 + length_of c) ≤ length j₁
  begun_fits =
      let b = begun_length (eqb at 0) in
      let r = reached_is at c in
      omega (arith, moved_length m (omega arith))

  pub begun_then : {j₂ : List ℕ} {at₂ : ℕ} → Moved (encode c) j₁ at₁ j₂ at₂ → Appended c j at j₂ at₂
  unfolding written reached
  begun_then n = let w = moved_then m n (omega (arith, begun_length (eqb at 0), reached_is at c, encode_length c)) in
      record { journal = rw (begun_bytes (eqb at 0) (encode c)) w.journal; place = rw (begun_bytes (eqb at 0) (encode c)) w.place }
