-- Copies put behind others: their heads one by one, and for each head sixteen words.
use Prim.Native.Nat.{ℕ, zero, suc, ◌+◌, ◌*◌, ◌≤◌, ◌<◌}
use mathlib.Core.Path.{◌≡◌, refl, ap, sym, ◌∙◌}
use mathlib.Core.List.{List, [], ◌∷◌, ◌++◌, map}
use native.Mathlib.Omega.{arith}
use lib.ListN.{length, take, drop, get_or, set, length-drop, take-append-drop}
use lib.Seq.{drop-drop, length-take-le, take-append-le, drop-append-le}
use Rattle.model.specs.Store.{Copy}
use Rattle.tables.specs.declared.CopyHead.{CopyHead}
use Rattle.tables.specs.Rows.{copies_of}
use Rattle.shares.specs.Many.{Pages}
use Rattle.flushes.specs.Parts.{head_of}
use Rattle.flushes.proofs.Turns.{next, push}

-- ---- one for each of a list, behind k others: those put, with those ahead, are W
module _ {A : Type 0} (c : ℕ → A) (due : List ℕ) (rows : List A) (k : ℕ) where
  pub put_start : take (k + 0) rows ++ map c due ≡ take k rows ++ map c due
  put_start = let z : k + 0 ≡ k = omega arith in rw z

  module _ (i : ℕ) {W : List A} (v : take (k + i) rows ++ map c (drop i due) ≡ W) where
    pub put_more : i < length due → k + i < length rows → {rows' : List A} → rows' ≡ set rows (k + i) (c (get_or due i 0))
        → take (k + (i + 1)) rows' ++ map c (drop (i + 1) due) ≡ W
    put_more h r q =
        let m : k + (i + 1) ≡ k + i + 1 = omega arith in
        rw (m, q) (push rows (k + i) (c (get_or due i 0)) (map c (drop (i + 1) due)) r ∙ (rw (next due i 0 h) at v))

-- ---- the copies that heads and words make
copies_first : (k : ℕ) (hs : List CopyHead) (words : List ℕ) → take k (copies_of hs words) ≡ copies_of (take k hs) words
copies_first zero hs words = refl
copies_first (suc k) [] words = refl
copies_first (suc k) (h ∷ hs) words = ap (λ (cs : List Copy). record { page = h.page; stamp = h.stamp; values = take 16 words } ∷ cs) (copies_first k hs (drop 16 words))

copies_append : (hs gs : List CopyHead) (words : List ℕ) → copies_of (hs ++ gs) words ≡ copies_of hs words ++ copies_of gs (drop (16 * length hs) words)
copies_append [] gs words = refl
copies_append (h ∷ hs) gs words =
    let n : 16 * length (h ∷ hs) ≡ 16 + 16 * length hs = omega arith in
    rw (n, ← drop-drop (16 * length hs) 16 words, copies_append hs gs (drop 16 words))

-- no more words are looked at than sixteen a head
copies_short : (hs : List CopyHead) (ws rest : List ℕ) → 16 * length hs ≤ length ws → copies_of hs (ws ++ rest) ≡ copies_of hs ws
copies_short [] ws rest m = refl
copies_short (h ∷ hs) ws rest m =
    let l : 16 ≤ length ws = omega arith in
    let r : 16 * length hs ≤ length (drop 16 ws) = simp length-drop (omega arith) in
    rw (take-append-le 16 ws rest l, drop-append-le 16 ws rest l, copies_short hs (drop 16 ws) rest r)

copies_cut : (hs : List CopyHead) (words : List ℕ) (n : ℕ) → 16 * length hs ≡ n → n ≤ length words → copies_of hs words ≡ copies_of hs (take n words)
copies_cut hs words n e m =
    let r : 16 * length hs ≤ length (take n words) = rw (length-take-le n words m) (omega arith) in
    sym (ap (copies_of hs) (take-append-drop n words)) ∙ copies_short hs (take n words) (drop n words) r

module _ (page : ℕ) (f : ℕ → List ℕ) where
  -- the page's copy of a stamp
  abbrev pub copy_from : ℕ → Copy
  copy_from s = record { page = page; stamp = s; values = f s }

  copies_listed : (ds words : List ℕ) → ((j : ℕ) → j < length ds → take 16 (drop (16 * j) words) ≡ f (get_or ds j 0)) → copies_of (map (head_of page) ds) words ≡ map copy_from ds
  copies_listed [] words p = refl
  copies_listed (s ∷ ds) words p =
      let ih = copies_listed ds (drop 16 words)
      (λ j b.
      let n : 16 + 16 * j ≡ 16 * suc j = omega arith in
      ap (take 16) (drop-drop (16 * j) 16 words ∙ ap (λ i. drop i words) n) ∙ p (suc j) (omega arith)) in
      rw (p 0 (omega arith), ih)

  pub copies_behind : (ds : List ℕ) (n k : ℕ) (hs hs' : List CopyHead) (words words' : List ℕ) → k ≤ length hs → 16 * k ≤ length words
      → take (k + n) hs' ≡ take k hs ++ map (head_of page) ds → Pages f ds (16 * k) words words'
      → take (k + n) (copies_of hs' words') ≡ take k (copies_of hs words) ++ map copy_from ds
  copies_behind ds n k hs hs' words words' h m e p =
      let z : 16 * length (take k hs) ≡ 16 * k = ap (λ i. 16 * i) (length-take-le k hs h) in
      let ahead : copies_of (take k hs) words' ≡ copies_of (take k hs) words =
      copies_cut (take k hs) words' (16 * k) z (omega (arith, p.size)) ∙ ap (copies_of (take k hs)) p.untouched ∙ sym (copies_cut (take k hs) words (16 * k) z m) in
      let own = copies_listed ds (drop (16 * k) words') (λ j b. ap (take 16) (drop-drop (16 * j) (16 * k) words') ∙ p.pages j b) in
      rw (copies_first (k + n) hs' words', e, copies_append (take k hs) (map (head_of page) ds) words', z, ahead, own, copies_first k hs words)
