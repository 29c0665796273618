-- A flush keeps an object sound.
use Prim.Native.Nat.{ℕ, ◌≤◌, ◌<◌}
use mathlib.Core.Path.{◌≡◌, refl, ap, sym, ◌∙◌, subst}
use mathlib.Core.Bool.{true, false}
use mathlib.Core.List.{◌++◌}
use native.Mathlib.Omega.{arith}
use lib.Dec.{eqb}
use borrow.Author.Tests.{eqb-true}
use Rattle.model.specs.declared.Pending.{Pending}
use Rattle.model.specs.declared.Seen.{Seen}
use Rattle.model.specs.Lists.{any_b, kept, elem_b}
use Rattle.model.specs.Store.{Store, page_of, mark, holds_b, Slot, none, some, lookup, oldest, disk, current}
use Rattle.model.specs.Changes.{dues, copy_at, copies_after, of_page, buried, stays_b, flush_store}
use Rattle.history.proofs.Laws.{by_test, clash, by_le}
use Rattle.history.specs.Words.{All}
use Rattle.history.proofs.Lists.{all_map, all_append, all_kept, all_mapped, elem_all}
use Rattle.history.proofs.Invariant.{needed_b, WaitOk, Waits, TrueRow, ServedBy, SoundAt, Whole}
use Rattle.history.proofs.Sound.{held, holds, unserved_beyond}
use Rattle.history.proofs.Entries.{found_object, all_found, gone, stayed, any_gone}
use Rattle.history.proofs.Copies.{oldest_most, oldest_least, served_first}
use Rattle.history.proofs.Disk.{disk_away, disk_none, current_away, current_own}
use Rattle.history.proofs.Dues.{dues_beyond, chain}
use Rattle.history.proofs.Archive.{news, mark_after, oldest_after, mark_away, oldest_away, needed_after, graves, none_after}

-- ---- the past values that a flush makes are true
module _ (o : ℕ) (L : ℕ → Seen) (st : Store) (a : Whole st) (k : SoundAt o L st) where
  buried_true : (e : Pending) → lookup e.object st.pending ≡ some e → TrueRow L st.last o (buried st e)
  buried_true e f s h =
      let r = held o s (buried st e) h in
      let q = r.object in
      let low = r.low in
      let high = r.high in
      let w : WaitOk L st.last (disk st o) e = rw (ap (λ x. lookup x st.pending) (sym q) ∙ f) at k.waits in
      let b = w.begun in
      let d : (disk st e.object).stamp ≡ (disk st o).stamp = ap (λ x. (disk st x).stamp) q in
      (w.before s (omega arith) high ∙ ap (disk st) (sym q), omega arith)

  rows_after : (p : ℕ) → All (TrueRow L st.last o) (flush_store st p).past
  unfolding flush_store
  rows_after p =
      let T = TrueRow L st.last o in
      all_kept T (stays_b st.horizon st.snapshots (copies_after st p) p) (st.past ++ graves st p)
      (all_append T st.past (graves st p) k.rows
      (all_mapped T (buried st) (kept (of_page p) st.pending)
      (all_kept (λ e. T (buried st e)) (of_page p) st.pending (all_map buried_true st.pending (all_found st.pending a.single)))))

  -- ---- an object of another page
  flush_away : (p : ℕ) → eqb (page_of o) p ≡ false → SoundAt o L (flush_store st p)
  unfolding flush_store
  flush_away p n =
      let c : (current (flush_store st p) o).stamp ≡ (current st o).stamp = ap (λ x. x.stamp) (current_away o st p n) in
      record {
        truth = k.truth;
        now = λ s l. k.now s l ∙ sym (current_away o st p n);
        waits = rw (stayed o p st.pending n) (subst (λ d. Waits L st.last d (lookup o st.pending)) (sym (disk_away o st p n)) k.waits);
        rows = rows_after p;
        covers = λ s m l e. k.covers s (needed_after st p (page_of o) s m) (omega arith) (none_after st p o s m e).0 ∙ sym (disk_away o st p n);
        served = λ s e l.
            let z = mark_away st p (page_of o) n in
            subst (ServedBy (L s).value o) (sym (oldest_away st p (page_of o) s n)) (k.served s e (omega arith));
      }

  -- ---- an object of the page
  flush_covers : (x : Slot) → o < 512 → lookup o st.pending ≡ x → (s : ℕ)
      → needed_b st.horizon st.snapshots (mark (copies_after st (page_of o)) (page_of o)) s ≡ true → s < (current st o).stamp
      → any_b (holds_b o s) (flush_store st (page_of o)).past ≡ false → L s ≡ disk (flush_store st (page_of o)) o
  flush_covers none b f s m l e =
      k.covers s (needed_after st (page_of o) (page_of o) s m) l (none_after st (page_of o) o s m e).0 ∙ sym (disk_none o st (page_of o) f)
  flush_covers (some x) b f s m l e =
      let p = page_of o in
      let z = none_after st p o s m e in
      let t = k.covers s (needed_after st p p s m) l z.0 in
      let u : (L s).stamp ≡ (disk st o).stamp = ap (λ y. y.stamp) t in
      let w : WaitOk L st.last (disk st o) x = rw f at k.waits in
      let q = found_object o st.pending x f in
      let d : (disk st x.object).stamp ≡ (disk st o).stamp = ap (λ y. (disk st y).stamp) q in
      by_le x.first s
      (λ g. absurd (omega (arith, w.since s g)))
      (λ g.
      let h = holds o s (buried st x) q (omega (arith, k.truth.upto s)) g in
      clash (any_b (holds_b o s) (graves st p)) (any_gone (holds_b o s) (buried st) o st.pending x f h) z.1)

  flush_served : (s : ℕ) → elem_b s st.snapshots ≡ true → s ≤ mark (copies_after st (page_of o)) (page_of o)
      → ServedBy (L s).value o (oldest (page_of o) s (copies_after st (page_of o)))
  flush_served s e l =
      let p = page_of o in
      let m = mark st.copies p in
      let ns = news st p in
      let z = mark_after st p p in
      rw (oldest_after st p p s)
      (by_le s m
      (λ g.
      served_first m (L s).value o (oldest p s st.copies) (oldest p s ns) (k.served s e g) (oldest_most p s st.copies)
      (oldest_least m p s ns
      (all_mapped (λ c. m ≤ c.stamp) (copy_at st p) (dues st p st.snapshots) (all_map (λ x (h : m < x). omega arith) (dues st p st.snapshots) (dues_beyond st p st.snapshots)))))
      (λ g.
      rw (unserved_beyond st.copies p s g)
      (chain o L st k st.snapshots a.rising (elem_all st.snapshots) s e g (omega arith))))

  flush_own : o < 512 → SoundAt o L (flush_store st (page_of o))
  unfolding flush_store
  flush_own b =
      let p = page_of o in
      let c : (current (flush_store st p) o).stamp ≡ (current st o).stamp = ap (λ x. x.stamp) (current_own o st a b) in
      record {
        truth = k.truth;
        now = λ s l. k.now s l ∙ sym (current_own o st a b);
        waits = rw (gone o st.pending) tt;
        rows = rows_after p;
        covers = λ s m l e. flush_covers (lookup o st.pending) b refl s m (omega arith) e;
        served = flush_served;
      }

  pub flush_sound : (p : ℕ) → o < 512 → SoundAt o L (flush_store st p)
  flush_sound p b = by_test (eqb (page_of o) p) (λ e. rw (← eqb-true (page_of o) p e) (flush_own b)) (λ e. flush_away p e)
