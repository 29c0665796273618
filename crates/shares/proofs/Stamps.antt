-- A page as of many stamps: sixteen words a stamp, one word put for all stamps of a span, and rows laid over all of them.
use Prim.Native.Nat.{ℕ, zero, suc, ◌+◌, ◌*◌, ◌≤◌, ◌<◌}
use mathlib.Core.Path.{◌≡◌, refl, ap, sym, ◌∙◌}
use mathlib.Core.Bool.{Bool, true, false}
use mathlib.Core.List.{List, [], ◌∷◌, ◌++◌}
use native.Mathlib.Omega.{arith}
use lib.ListN.{length, take, drop, get_or, set, length-set, length-drop}
use lib.Seq.{take-take, take_at, drop_at, length-take-le, take-set-le, take-set-lt, drop-set-lt, drop-set-add}
use lib.Dec.{eqb}
use borrow.Rule.Slice.PartMut.{put_mid, take_put, same_len_mid}
use borrow.Author.Tests.{eqb-true, eqb-false}
use Rattle.model.specs.Lists.{pick}
use Rattle.model.specs.Store.{page16, object_at, slot_of, pending_seen, past_seen}
use Rattle.model.specs.Changes.{of_page}
use Rattle.tables.specs.declared.Heads.{Heads}
use Rattle.tables.specs.Rows.{pending_of, past_of, pendings, pasts}
use Rattle.tables.proofs.Cases.{by_test}
use Rattle.std.proofs.Common.{Some}
use Rattle.tables.specs.declared.Written.{Written}
use Rattle.views.specs.declared.View.{View}
use Rattle.views.specs.declared.Word.{Word}
use Rattle.views.specs.Rows.{covers_by, shows_by}
use Rattle.views.specs.Views.{part_of, lay, Lookable}
use Rattle.views.proofs.Sights.{Sized, on_disk, below_past, sight_page}
use Rattle.shares.specs.declared.Share.{Share}
use Rattle.shares.specs.Shares.{row_of_page, rows_at, Shared}
use Rattle.shares.specs.Many.{Pages, page_at}
use Rattle.shares.proofs.Laying.{lay_listed}

-- ---- what is shown as of a stamp is shown as of those before it, from its own on
pub shown_before : (shown : ℕ → Bool) (own : ℕ) → ((s t : ℕ) → own ≤ s → s ≤ t → shown s ≡ false → shown t ≡ false)
    → (s : ℕ) {t : ℕ} → shown t ≡ true → own ≤ s → s ≤ t → shown s ≡ true
shown_before shown own over s {t} e h m = by_test (shown s) (λ y. y) (λ n. let z = over s t h m n in cc)

-- ---- sixteen words from a place on
cut_take : (b a : ℕ) (l : List ℕ) → b + 16 ≤ a → take 16 (drop b (take a l)) ≡ take 16 (drop b l)
cut_take zero a l h = take-take 16 a l (omega arith)
cut_take (suc b) zero l h = absurd (omega arith)
cut_take (suc b) (suc a) [] h = refl
cut_take (suc b) (suc a) (x ∷ xs) h = cut_take b a xs (omega arith)

cut_below : (b a : ℕ) (l m : List ℕ) → take a l ≡ take a m → b + 16 ≤ a → take 16 (drop b l) ≡ take 16 (drop b m)
cut_below b a l m e h = sym (cut_take b a l h) ∙ ap (λ x. take 16 (drop b x)) e ∙ cut_take b a m h

-- ---- sixteen words written behind j pages
module _ (at j k : ℕ) (words : List ℕ) {ys P : List ℕ} (e : ys ≡ P) (q : length P ≡ 16) (z : k ≡ 16) (m : at + 16 * j + 16 ≤ length words) where
  pub page_size : length (put_mid (at + 16 * j) k words ys) ≡ length words
  page_size =
      let l : length (take k (drop (at + 16 * j) words)) ≡ k = length-take-le k (drop (at + 16 * j) words) (simp length-drop (omega arith)) in
      same_len_mid (at + 16 * j) k words ys (ap length e ∙ q ∙ sym z ∙ sym l)

  pub page_under : (words₀ : List ℕ) → take at words ≡ take at words₀ → take at (put_mid (at + 16 * j) k words ys) ≡ take at words₀
  page_under words₀ y =
      let a = at + 16 * j in
      let b : at ≤ a = omega arith in
      sym (take-take at a (put_mid a k words ys) b) ∙ ap (take at) (take_put a k words ys (omega arith)) ∙ take-take at a words b ∙ y

  pub page_more : ((i : ℕ) → i < j → take 16 (drop (at + 16 * i) words) ≡ P) → (i : ℕ) → i < j + 1 → take 16 (drop (at + 16 * i) (put_mid (at + 16 * j) k words ys)) ≡ P
  page_more f i h =
      let a = at + 16 * j in
      let t = drop k (drop a words) in
      by_test (eqb i j)
      (λ y. rw (eqb-true i j y) (ap (take 16) (drop_at (take a words) (ys ++ t) a (length-take-le a words (omega arith))) ∙ take_at ys t 16 (ap length e ∙ q) ∙ e))
      (λ y.
      let n = eqb-false i j y in
      let b : i < j = omega arith in
      cut_below (at + 16 * i) a (put_mid a k words ys) words (take_put a k words ys (omega arith)) (omega arith) ∙ f i b)

-- ---- a word put at a slot for those of the stamps before the j-th that pass
pub record Laid (stamps : List ℕ) (at slot word : ℕ) (t : ℕ → Bool) (words₀ : List ℕ) (j : ℕ) (words : List ℕ) : Type 0 where
  pub done : (i : ℕ) → i < j → take 16 (drop (at + 16 * i) words) ≡ pick (t (get_or stamps i 0)) (set (take 16 (drop (at + 16 * i) words₀)) slot word) (take 16 (drop (at + 16 * i) words₀))
  pub ahead : (i : ℕ) → j ≤ i → take 16 (drop (at + 16 * i) words) ≡ take 16 (drop (at + 16 * i) words₀)
  pub untouched : take at words ≡ take at words₀
  pub size : length words ≡ length words₀

module _ {stamps : List ℕ} {at slot word : ℕ} {t : ℕ → Bool} {words₀ : List ℕ} {j : ℕ} where
  module _ {words : List ℕ} (a : Laid stamps at slot word t words₀ j words) where
    pub laid_more : {p x : ℕ} → p ≡ at + slot → x ≡ word → slot < 16 → t (get_or stamps j 0) ≡ true
        → Laid stamps at slot word t words₀ (j + 1) (set words (p + 16 * j) x)
    laid_more {p} {x} q e l c =
        let b = at + 16 * j in
        let z : p + 16 * j ≡ b + slot = omega arith in
        let below : take b (set words (p + 16 * j) x) ≡ take b words = take-set-le b words (p + 16 * j) x (omega arith) in
        let here : take 16 (drop b (set words (p + 16 * j) x)) ≡ set (take 16 (drop b words)) slot word
        = rw (z, e) (ap (take 16) (drop-set-add b words slot word) ∙ take-set-lt 16 (drop b words) slot word l) in
        record {
          done = λ i h.
              by_test (eqb i j)
              (λ y. rw (eqb-true i j y, c) (here ∙ ap (λ r. set r slot word) (a.ahead j (omega arith))))
              (λ y.
              let n = eqb-false i j y in
              let m : i < j = omega arith in
              cut_below (at + 16 * i) b (set words (p + 16 * j) x) words below (omega arith) ∙ a.done i m);
          ahead = λ i h. ap (take 16) (drop-set-lt (at + 16 * i) words (p + 16 * j) x (omega arith)) ∙ a.ahead i (omega arith);
          untouched = take-set-le at words (p + 16 * j) x (omega arith) ∙ a.untouched;
          size = length-set words (p + 16 * j) x ∙ a.size;
        }

-- ---- the same words, said otherwise
pub pages_same : {f g : ℕ → List ℕ} {stamps : List ℕ} {at : ℕ} {words₀ words : List ℕ} → ((s : ℕ) → f s ≡ g s) → Pages f stamps at words₀ words → Pages g stamps at words₀ words
pages_same {f} {g} {stamps} e p = record { pages = λ j h. p.pages j h ∙ e (get_or stamps j 0); untouched = p.untouched; size = p.size }

-- ---- the page as of a stamp: its rows over its words on disk, and its entries over them
pub page_listed : (w : Written) (h : Heads) (page : ℕ) (word : Word) → Sized w → Lookable w h page
    → (share : Share) → Shared w h page share → (s : ℕ)
    → lay (shows_by (Some s)) (λ e. slot_of e.object) (λ e. part_of word (pending_seen e)) (rows_at (pending_of []) (pendings w.pending) share.entries.items)
    (lay (covers_by (Some s)) (λ q. slot_of q.object) (λ q. part_of word (past_seen q)) (rows_at (past_of []) (pasts w.past) share.rows.items)
    (page16 (λ k. part_of word (record { value = get_or w.disk (object_at page k) 0; stamp = get_or w.dated (object_at page k) 0 }))))
    ≡ page_at w h page word s
page_listed w h page word z a share b s =
    let v : View = record { page = page; as_of = Some s; word = word } in
    let out = page16 (λ k. part_of word (on_disk w h v k)) in
    let under = lay_listed (covers_by (Some s)) (λ q. slot_of q.object) (λ q. part_of word (past_seen q)) (past_of []) (pasts w.past) share.rows.items (row_of_page page) h.past b.past_rows out
    ∙ below_past w h v refl in
    lay_listed (shows_by (Some s)) (λ e. slot_of e.object) (λ e. part_of word (pending_seen e)) (pending_of []) (pendings w.pending) share.entries.items (of_page page) h.pending b.entries _
    ∙ sight_page w h v z a under [] [] []
