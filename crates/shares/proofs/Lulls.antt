-- Lulls: how the newest stamp before one is found, and that in a lull no value of the page as of a stamp was written beyond an earlier one.
use Prim.Native.Nat.{ℕ, ◌+◌, ◌/◌, ◌≤◌, ◌<◌, max}
use mathlib.Core.Path.{◌≡◌, refl}
use mathlib.Core.Bool.{Bool, true}
use mathlib.Core.List.{List, [], ◌∷◌}
use native.Mathlib.Omega.{arith}
use lib.ListN.{take, get_or}
use lib.Dec.{eqb, ltb, leb}
use borrow.Author.Tests.{le-ltb, leb-true, leb-false}
use Rattle.model.specs.declared.Seen.{Seen}
use Rattle.model.specs.declared.Past.{Past}
use Rattle.model.specs.declared.Pending.{Pending}
use Rattle.model.specs.Lists.{both, all_b, kept}
use Rattle.model.specs.Changes.{of_page}
use Rattle.model.specs.Store.{page_of, slot_of, past_seen, pending_seen, object_at}
use Rattle.tables.specs.declared.Heads.{Heads}
use Rattle.tables.specs.declared.Written.{Written}
use Rattle.tables.specs.Rows.{pending_of, past_of, pendings, pasts}
use Rattle.tables.specs.Contents.{contents}
use Rattle.tables.proofs.Cases.{by_test}
use Rattle.tables.proofs.Counts.{up_to_take}
use Rattle.tables.proofs.Rows.{pasts_length, pendings_length}
use Rattle.tables.proofs.Searches.{both_left, both_right}
use Rattle.std.proofs.Common.{Some}
use Rattle.views.specs.declared.View.{View}
use Rattle.views.specs.declared.Word.TheVariants.{Age}
use Rattle.views.specs.Views.{viewed, part_of, covers_b, shows_b, Lookable}
use Rattle.views.proofs.Laying.{word_or}
use Rattle.views.proofs.Showing.{spanned, past_shown, pending_shown}
use Rattle.views.proofs.Sights.{Sized}
use Rattle.shares.specs.Shares.{row_of_page}
use Rattle.shares.specs.Lulls.{newer_of, newest_of, Lull, outside_b, Still}

-- ---- the newer of two stamps
module _ (bound b w : ℕ) where
  pub newer_max : w ≤ bound → {r : ℕ} → r ≡ max b w → r ≡ newer_of bound b w
  newer_max h e = rw (le-ltb bound w h) e

  newer_least : b ≤ newer_of bound b w
  newer_least = by_test (ltb bound w) (λ e. rw e (omega arith)) (λ e. rw e (omega arith))

-- ---- the newest of a stamp and of those up to a bound, found row by row
module _ {A : Type 0} (stamp : A → ℕ) (bound : ℕ) where
  pub newest_least : (b : ℕ) (l : List A) → b ≤ newest_of stamp bound b l
  newest_least b [] = omega arith
  newest_least b (x ∷ xs) =
      let ih = newest_least (newer_of bound b (stamp x)) xs in
      omega (arith, newer_least bound b (stamp x))

  -- behind the newest, and up to the bound, there is none
  pub newest_outside : (r b : ℕ) (l : List A) → newest_of stamp bound b l ≤ r → all_b (λ x. outside_b (record { from = r; until = bound + 1 }) (stamp x)) l ≡ true
  newest_outside r b [] h = refl
  newest_outside r b (x ∷ xs) h =
      let w = stamp x in
      let b' = newer_of bound b w in
      let ih = newest_outside r b' xs h in
      by_test (leb w r)
      (λ e. rw e ih)
      (λ e.
      by_test (leb (bound + 1) w)
      (λ q. rw (e, q) ih)
      (λ q.
      let m : w ≤ bound = omega (arith, leb-false (bound + 1) w q) in
      absurd (omega (arith, leb-false w r e, h, newest_least b' xs, newer_max bound b w m refl))))

-- ---- a word that is laid over w, of rows that pass f, which all pass g
module _ {A : Type 0} (f g c : A → Bool) (slot word : A → ℕ) (k s : ℕ) (t : (x : A) → f x ≡ true → g x ≡ true) (u : (x : A) → f x ≡ true → c x ≡ true → word x ≤ s) where
  word_low : (l : List A) (w : ℕ) → w ≤ s → all_b c (kept g l) ≡ true → word_or f slot word k l w ≤ s
  word_low [] w h a = h
  word_low (x ∷ xs) w h a =
      by_test (f x)
      (λ e.
      let q : both (c x) (all_b c (kept g xs)) ≡ true = rw (t x e) at a in
      let ih = word_low xs w h (both_right (c x) (all_b c (kept g xs)) q) in
      by_test (eqb (slot x) k) (λ z. rw (z, e) (u x e (both_left (c x) (all_b c (kept g xs)) q))) (λ z. rw z ih))
      (λ e.
      let r : all_b c (kept g xs) ≡ true = by_test (g x) (λ z. both_right (c x) (all_b c (kept g xs)) (rw z at a)) (λ z. rw z at a) in
      let ih = word_low xs w h r in
      by_test (eqb (slot x) k) (λ z. rw (z, e) ih) (λ z. rw z ih))

-- outside a lull, and not behind its end
outside_low : (l : Lull) (w s n : ℕ) → l.from ≤ s → n < l.until → w ≤ n → outside_b l w ≡ true → w ≤ s
outside_low l w s n h m b e =
    by_test (leb w l.from)
    (λ q. omega (arith, leb-true w l.from q))
    (λ q. let z : leb l.until w ≡ true = rw q at e in absurd (omega (arith, leb-true l.until w z)))

-- ---- the ages of a page as of a stamp n
module _ (p n : ℕ) where
  abbrev pub ages_at : View
  ages_at = record { page = p; as_of = Some n; word = Age }

  row_by : (q : Past) → covers_b ages_at q ≡ true → q.from ≤ n
  row_by q e =
      leb-true q.from n (both_left (leb q.from n) (ltb n q.until) (both_right (eqb (q.object / 16) p) (both (leb q.from n) (ltb n q.until)) e))

  entry_by : (x : Pending) → shows_b ages_at x ≡ true → x.latest ≤ n
  entry_by x e = leb-true x.latest n (both_right (eqb (x.object / 16) p) (leb x.latest n) e)

  row_on_page : (q : Past) → covers_b ages_at q ≡ true → row_of_page p q ≡ true
  row_on_page q e = both_left (eqb (page_of q.object) p) _ e

  entry_on_page : (x : Pending) → shows_b ages_at x ≡ true → of_page p x ≡ true
  entry_on_page x e = both_left (eqb (page_of x.object) p) _ e

  -- in a lull, no slot's value was written beyond s
  pub still_slot : (w : Written) (h : Heads) → Sized w → Lookable w h p → (l : Lull) → Still w h p l
      → (s : ℕ) → l.from ≤ s → n < l.until → (k : ℕ) → k < 16 → get_or w.dated (object_at p k) 0 ≤ s
      → viewed (contents w.disk w.dated w.pending w.past [] [] [] h) ages_at (object_at p k) ≤ s
  still_slot w h z a l t s b e k m d =
      let es = take h.pending (pendings w.pending) in
      let qs = take h.past (pasts w.past) in
      let o = object_at p k in
      let x : Seen = record { value = get_or w.disk o 0; stamp = get_or w.dated o 0 } in
      let under =
      word_low (covers_b ages_at) _ (λ q. outside_b l q.from) (λ q. slot_of q.object) (λ q. part_of Age (past_seen q)) k s row_on_page
      (λ q c y. outside_low l q.from s n b e (row_by q c) y) qs (get_or w.dated o 0) d t.past_rows in
      let low = rw (past_shown ages_at k m (Some n) refl x qs) at under in
      let all =
      word_low (shows_b ages_at) _ (λ q. outside_b l q.latest) (λ q. slot_of q.object) (λ q. part_of Age (pending_seen q)) k s entry_on_page
      (λ q c y. outside_low l q.latest s n b e (entry_by q c) y) es _ low t.entries in
      rw (
        up_to_take (pending_of []) h.pending (pendings w.pending) (omega (arith, pendings_length w.pending 128 z.pending_rows, a.pending_count)),
        up_to_take (past_of []) h.past (pasts w.past) (omega (arith, pasts_length w.past 256 z.past_rows, a.past_count)),
      )
      (rw (pending_shown ages_at k m (Some n) refl (spanned (Some n) o qs x) es a.single) at all)
