-- The due snapshots: what makes one due, how they are listed, and the largest of them.
use Prim.Native.Nat.{ℕ, zero, suc, ◌+◌, ◌-◌, ◌*◌, ◌≤◌, ◌<◌, max}
use mathlib.Core.Path.{◌≡◌, refl, ap, sym, ◌∙◌}
use mathlib.Core.Bool.{Bool, true, false}
use mathlib.Core.List.{List, [], ◌∷◌, ◌++◌, append_assoc, append-nil}
use Rattle.std.specs.Prelude.{Some, None}
use Rattle.std.specs.List.{list_any}
use native.Mathlib.Omega.{arith}
use lib.ListN.{length, take, drop, get_or, length-take, length-drop}
use lib.Seq.{get_or-take, get_or-drop}
use lib.Dec.{ltb}
use borrow.Author.Tests.{lt-ltb, le-ltb}
use Rattle.model.specs.Lists.{either, any_b, rising_from, tab, some_below}
use Rattle.model.specs.Store.{Store, page16, some_slot, object_at, mark}
use Rattle.model.specs.Changes.{due_b, dues}
use Rattle.tables.specs.declared.Heads.{Heads}
use Rattle.tables.specs.declared.Written.{Written}
use Rattle.tables.specs.declared.Store as tables
use Rattle.tables.specs.Contents.{stored}
use Rattle.tables.proofs.Cases.{by_test}
use Rattle.tables.proofs.Searches.{drop_end}
use Rattle.views.specs.declared.View.{View}
use Rattle.views.specs.declared.Word.TheVariants.{Age}
use Rattle.views.specs.Views.{viewed, Lookable}
use Rattle.views.proofs.Sights.{Sized}
use Rattle.shares.specs.Lulls.{Lull, Still}
use Rattle.shares.specs.Many.{FirstFrom, Pages, page_at}
use Rattle.shares.proofs.Laying.{both_not}
use Rattle.shares.proofs.Lulls.{still_slot}
use Rattle.shares.proofs.Orders.{rising_at, first_inside, first_before, first_behind}
use Rattle.flushes.specs.Parts.{seen_in, next_view, due_seen, dues_seen, Telling, ListedTo}
use Rattle.flushes.proofs.Turns.{next_row}

-- ---- some slot of a page
swap : (a b c : Bool) → either a (either b c) ≡ either b (either a c)
swap true true c = refl
swap true false c = refl
swap false b c = refl

some_first : (n : ℕ) (f : ℕ → Bool) → some_below (suc n) f ≡ either (f 0) (some_below n (λ k. f (suc k)))
some_first zero f = refl
some_first (suc n) f = ap (either (f (suc n))) (some_first n f) ∙ swap (f (suc n)) (f 0) (some_below n (λ k. f (suc k)))

pub any_listed : (f : ℕ → Bool) (l : List ℕ) → any_b f l ≡ list_any f l
any_listed f [] = refl
any_listed f (x ∷ xs) = let ih = any_listed f xs in by_test (f x) (λ e. rw e) (λ e. rw e ih)

any_tab : (n : ℕ) (f : ℕ → ℕ) (g : ℕ → Bool) → any_b g (tab n f) ≡ some_below n (λ k. g (f k))
any_tab zero f g = refl
any_tab (suc n) f g = ap (either (g (f 0))) (any_tab n (λ k. f (suc k)) g) ∙ sym (some_first n (λ k. g (f k)))

any_page : (f : ℕ → ℕ) (g : ℕ → Bool) → any_b g (page16 f) ≡ some_slot (λ k. g (f k))
unfolding page16 some_slot
any_page f g = any_tab 16 f g

-- ---- one snapshot
module _ (p : ℕ) (l : List ℕ) (n j : ℕ) where
  next_some : j < n → n ≤ length l → record { page = p; as_of = Some (get_or l j 0); word = Age } ≡ next_view p (drop j (take n l))
  next_some h m = rw (next_row l n j 0 h m)

  pub next_none : n ≤ j → record { page = p; as_of = None; word = Age } ≡ next_view p (drop j (take n l))
  next_none h = rw (drop_end n l j h)

module _ (st : Store) (p m s : ℕ) (ns : List ℕ) where
  pub due_seen_lem : {v : View} {out : List ℕ} → m < s → v ≡ next_view p ns → out ≡ page16 (λ k. viewed st v (object_at v.page k))
      → any_b (ltb s) out ≡ due_seen st p m s ns
  due_seen_lem l q e =
      rw (lt-ltb m s l)
      (ap (any_b (ltb s)) (e ∙ ap (λ (v : View). page16 (λ k. viewed st v (object_at v.page k))) q)
      ∙ any_page (λ k. viewed st (next_view p ns) (object_at p k)) (ltb s))

  due_not : s ≤ m → false ≡ due_seen st p m s ns
  due_not l = rw (le-ltb m s l)

-- ---- snapshots from low to high, by their ages as of the next one
-- sixteen words for each of the next ones tell
pub pages_tell : (w : Written) (h : Heads) (p m : ℕ) (l : List ℕ) (n low high : ℕ) → high < n → n ≤ length l
    → ((i : ℕ) → low ≤ i → i < high → m < get_or l i 0)
    → {words₀ words : List ℕ} → Pages (page_at w h p Age) (take (high + 1 - (low + 1)) (drop (low + 1) l)) 0 words₀ words
    → Telling (seen_in w h) p m l n low high words
pages_tell w h p m l n low high e b f {words₀} {words} x i q r =
    let c = high + 1 - (low + 1) in
    let j = i - low in
    let t : j < c = omega arith in
    let k : j < length (take c (drop (low + 1) l)) = simp (length-take, length-drop) (omega arith) in
    let z : low + 1 + j ≡ i + 1 = omega arith in
    let g = get_or-take c (drop (low + 1) l) j 0 t ∙ get_or-drop (low + 1) l j 0 ∙ ap (λ (k : ℕ). get_or l k 0) z in
    let y : 16 * j ≡ 0 + 16 * j = omega arith in
    due_seen_lem (seen_in w h) p m (get_or l i 0) (drop (i + 1) (take n l)) (f i q r) (next_some p l n (i + 1) (omega arith) b)
    (ap (λ (k : ℕ). take 16 (drop k words)) y ∙ x.pages j k ∙ ap (page_at w h p Age) g)

-- the sixteen words of the snapshot at i, looked through
pub told_due : (st : Store) (p m : ℕ) (l : List ℕ) (n low high : ℕ) (ages : List ℕ) → Telling st p m l n low high ages → (i : ℕ) → low ≤ i → i < high
    → {r : Bool} → r ≡ any_b (ltb (get_or l i 0)) (take (16 * (i - low) + 16 - 16 * (i - low)) (drop (16 * (i - low)) ages)) → r ≡ due_seen st p m (get_or l i 0) (drop (i + 1) (take n l))
told_due st p m l n low high ages t i h k e =
    let a = 16 * (i - low) in
    let q : a + 16 - a ≡ 16 = omega arith in
    e ∙ ap (λ c. any_b (ltb (get_or l i 0)) (take c (drop a ages))) q ∙ t i h k

-- none, or those up to high
module _ (st : Store) (p m : ℕ) (known : List ℕ) (low high : ℕ) where
  pub listed_high : low < high → (found : List ℕ) → ListedTo st p m known low high found → ListedTo st p m known low (max low high) found
  listed_high h found v =
      let e : max low high ≡ high = omega arith in
      ap (λ (j : ℕ). found ++ dues_seen st p m (drop j known)) e ∙ v

-- ---- a snapshot from which on, up to the next known one, nothing of the page was written
none_below : (n : ℕ) (f : ℕ → Bool) → ((k : ℕ) → k < n → f k ≡ false) → some_below n f ≡ false
none_below zero f h = refl
none_below (suc n) f h = rw (h n (omega arith)) (none_below n f (λ k b. h k (omega arith)))

no_slot : (f : ℕ → Bool) → ((k : ℕ) → k < 16 → f k ≡ false) → some_slot f ≡ false
unfolding some_slot
no_slot f h = none_below 16 f h

-- at or behind the newest stamp up to a bound, with the next one no later than the bound
due_quiet : (w : Written) (h : Heads) (p : ℕ) → Sized w → Lookable w h p
    → {newest bound : ℕ} → Still w h p (record { from = newest; until = bound + 1 }) → ((k : ℕ) → k < 16 → get_or w.dated (object_at p k) 0 ≤ newest)
    → (m s n : ℕ) (ns : List ℕ) → newest ≤ s → n ≤ bound → due_seen (seen_in w h) p m s (n ∷ ns) ≡ false
due_quiet w h p z a {newest} {bound} q d m s n ns b u =
    let l : Lull = record { from = newest; until = bound + 1 } in
    sym (both_not (ltb m s) _
    (no_slot (λ k. ltb s (viewed (seen_in w h) (next_view p (n ∷ ns)) (object_at p k)))
    (λ k i. le-ltb s _ (still_slot p n w h z a l q s b (omega arith) k i (omega (arith, d k i))))))

-- ---- a stretch of snapshots none of which is due
module _ (st : Store) (p m : ℕ) (l : List ℕ) (n : ℕ) (b : n ≤ length l) where
  skip_by : (c i : ℕ) → i + c ≤ n → ((j : ℕ) → i ≤ j → j < i + c → due_seen st p m (get_or l j 0) (drop (j + 1) (take n l)) ≡ false)
      → dues_seen st p m (drop i (take n l)) ≡ dues_seen st p m (drop (i + c) (take n l))
  skip_by zero i h f = let e : i ≡ i + 0 = omega arith in ap (λ (j : ℕ). dues_seen st p m (drop j (take n l))) e
  skip_by (suc c) i h f =
      let ih = skip_by c (i + 1) (omega arith) (λ j q r. f j (omega arith) (omega arith)) in
      let e : i + 1 + c ≡ i + suc c = omega arith in
      rw (next_row l n i 0 (omega arith) b, f i (omega arith) (omega arith)) (rw e at ih)

  dues_skip : (i j : ℕ) → i ≤ j → j ≤ n → ((k : ℕ) → i ≤ k → k < j → due_seen st p m (get_or l k 0) (drop (k + 1) (take n l)) ≡ false)
      → dues_seen st p m (drop i (take n l)) ≡ dues_seen st p m (drop j (take n l))
  dues_skip i j h k f =
      let e : i + (j - i) ≡ j = omega arith in
      rw e at (skip_by (j - i) i (omega arith) (λ c q r. f c q (omega arith)))

-- ---- all of them: none up to the mark
dues_behind : (st : Store) (p m : ℕ) (l : List ℕ) (n j : ℕ) → n ≤ length l → j ≤ n → ((i : ℕ) → i < j → get_or l i 0 ≤ m)
    → dues_seen st p m (take n l) ≡ dues_seen st p m (drop j (take n l))
dues_behind st p m l n j b h f =
    dues_skip st p m l n b 0 j (omega arith) h (λ i q r. sym (due_not st p m (get_or l i 0) (drop (i + 1) (take n l)) (f i r)))

pub none_due : (st : Store) (p m : ℕ) (l : List ℕ) (n : ℕ) → n ≤ length l → ((i : ℕ) → i < n → get_or l i 0 ≤ m) → [] ≡ dues_seen st p m (take n l)
none_due st p m l n b f =
    sym (dues_behind st p m l n n b (omega arith) f ∙ ap (dues_seen st p m) (drop_end n l n (omega arith)))

-- none from the newest stamp to the last snapshot, the one at e
module _ (w : Written) (h : Heads) (p : ℕ) (sz : Sized w) (a : Lookable w h p) (l : List ℕ) (n e : ℕ) (q : e + 1 ≡ n) (b : n ≤ length l) (u : rising_from 0 (take n l) ≡ true) where
  pub dues_to_last : (m : ℕ) {newest low high : ℕ} → Still w h p (record { from = newest; until = get_or l e 0 + 1 })
      → ((k : ℕ) → k < 16 → get_or w.dated (object_at p k) 0 ≤ newest) → FirstFrom (take e l) (m + 1) low → FirstFrom (take e l) newest high
      → (found : List ℕ) → ListedTo (seen_in w h) p m (take n l) low (max low high) found
      → found ++ dues_seen (seen_in w h) p m (drop e (take n l)) ≡ dues_seen (seen_in w h) p m (take n l)
  dues_to_last m {newest} {low} {high} t d f g found v =
      let st = seen_in w h in
      let c : e ≤ length l = omega arith in
      let x = first_inside e l c f in
      let y = first_inside e l c g in
      ap (λ (r : List ℕ). found ++ r)
      (sym
      (dues_skip st p m l n b (max low high) e (omega arith) (omega arith)
      (λ i r z.
      let more : i + 1 < n = omega arith in
      ap (due_seen st p m (get_or l i 0)) (next_row l n (i + 1) 0 more b)
      ∙ due_quiet w h p sz a t d m (get_or l i 0) (get_or l (i + 1) 0) (drop (i + 1 + 1) (take n l)) (first_behind e l c g i (omega arith) z) (rising_at n l u b (i + 1) e (omega arith) (omega arith)))))
      ∙ v
      ∙ sym (dues_behind st p m l n low b (omega arith) (λ i r. omega (arith, first_before e l c f i r)))

-- ---- some are listed before snapshot i
module _ (st : Store) (p m : ℕ) (l : List ℕ) (n i : ℕ) (found : List ℕ) {W : List ℕ} (v : found ++ dues_seen st p m (drop i (take n l)) ≡ W) where
  module _ (h : i < n) (b : n ≤ length l) where
    pub list_yes : due_seen st p m (get_or l i 0) (drop (i + 1) (take n l)) ≡ true
        → (found ++ (get_or l i 0 ∷ [])) ++ dues_seen st p m (drop (i + 1) (take n l)) ≡ W
    list_yes e = rw append_assoc (rw (next_row l n i 0 h b, e) at v)

    pub list_no : due_seen st p m (get_or l i 0) (drop (i + 1) (take n l)) ≡ false → found ++ dues_seen st p m (drop (i + 1) (take n l)) ≡ W
    list_no e = rw (next_row l n i 0 h b, e) at v

  pub list_end : n ≤ i → found ≡ W
  list_end h = sym (append-nil found) ∙ (rw (drop_end n l i h) at v)

module _ (store : tables.Store) (p m : ℕ) (e : m ≡ mark (stored store).copies p) where
  due_same : (s : ℕ) (ns : List ℕ) → due_seen (seen_in store.written store.heads) p m s ns ≡ due_b (stored store) p s ns
  due_same s [] = rw e
  due_same s (n ∷ ns) = rw e

  pub dues_same : (ns : List ℕ) → dues_seen (seen_in store.written store.heads) p m ns ≡ dues (stored store) p ns
  dues_same [] = refl
  dues_same (s ∷ ns) = rw (due_same s ns, dues_same ns)
