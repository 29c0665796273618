-- A commit keeps an object sound.
use Prim.Native.Nat.{ℕ, ◌≤◌, ◌<◌}
use mathlib.Core.Path.{◌≡◌, refl, sym, ◌∙◌}
use mathlib.Core.Bool.{true, false}
use mathlib.Core.List.{List, [], ◌∷◌}
use native.Mathlib.Omega.{arith}
use lib.Dec.{leb, eqb}
use borrow.Author.Tests.{eqb-true, eqb-false, le-leb, lt-leb}
use Rattle.model.specs.declared.Pending.{Pending}
use Rattle.model.specs.declared.Past.{Past}
use Rattle.model.specs.declared.Seen.{Seen}
use Rattle.model.specs.Lists.{both, pick, any_b}
use Rattle.model.specs.Store.{Store, page_of, mark, holds_b, live_b, Slot, none, some, lookup, disk, current}
use Rattle.model.specs.Changes.{Write, closed, displaced, write_one, writes, last_at, commit_store}
use Rattle.history.specs.History.{write_seen, writes_seen}
use Rattle.history.proofs.Laws.{by_test, clash, by_le}
use Rattle.history.specs.Words.{All}
use Rattle.history.proofs.Lists.{all_map, all_elem}
use Rattle.history.proofs.Invariant.{needed_b, Truth, WaitOk, TrueRow, SoundAt, Whole}
use Rattle.history.proofs.Sound.{by_slot, held, holds, live_needed, now_from, disk_last}
use Rattle.history.proofs.Judged.{CommitOk}
use Rattle.history.proofs.Writes.{entry_of, lookup_own, lookup_other, add_all, add_none}

-- ---- a write of another object
other_object : (o s x t : ℕ) (e : Pending) → eqb x o ≡ false → holds_b o s (closed e x t) ≡ true → ⊥
other_object o s x t e n h = eqb-false x o n (held o s (closed e x t) h).object

write_other : (o : ℕ) (L : ℕ → Seen) (st : Store) (t x v : ℕ) → eqb x o ≡ false → SoundAt o L st → SoundAt o L (write_one st t x v)
unfolding write_one
write_other o L st t x v n k =
    let same = lookup_other x t v o st.pending n in
    record {
      truth = k.truth;
      now = rw same k.now;
      waits = rw same k.waits;
      rows =
          by_slot (lookup x st.pending)
          (λ f. rw f k.rows)
          (λ e f.
          rw f
          (add_all (TrueRow L st.last o) (live_b st.horizon st.snapshots st.copies (closed e x t)) st.past (closed e x t) k.rows
          (λ b s h. absurd (other_object o s x t e n h))));
      covers = λ s c l h.
          let l2 : s < (current st o).stamp = rw same at l in
          by_slot (lookup x st.pending)
          (λ f. k.covers s c l2 (rw f at h))
          (λ e f.
          k.covers s c l2
          (add_none (holds_b o s) (live_b st.horizon st.snapshots st.copies (closed e x t)) st.past (closed e x t) (rw f at h)).0);
      served = k.served;
    }

-- ---- a write of the object itself
module _ (o : ℕ) (L : ℕ → Seen) (st : Store) (t v : ℕ) (k : SoundAt o L st) (q : st.last ≡ t) (hz : st.horizon < t) (dk : (disk st o).stamp < t)
    (ks : All (λ s. s ≤ st.horizon) st.snapshots) where
  abbrev L2 : ℕ → Seen
  L2 s = pick (leb t s) (record { value = v; stamp = t }) (L s)

  late : (s : ℕ) → t ≤ s → L2 s ≡ record { value = v; stamp = t }
  late s l = rw (le-leb t s l)

  early : (s : ℕ) → s < t → L2 s ≡ L s
  early s l = rw (lt-leb t s l)

  write_truth : Truth L2 st.last
  write_truth = record {
    upto = λ s. by_le t s (λ l. rw (le-leb t s l) l) (λ l. rw (lt-leb t s l) (k.truth.upto s));
    bounded = λ s. by_le t s (λ l. rw (le-leb t s l) (omega arith)) (λ l. rw (lt-leb t s l) (k.truth.bounded s));
    same = λ s u le h.
        by_le t u
        (λ l. let m : t ≤ s = rw (le-leb t u l) at h in late s m ∙ sym (late u l))
        (λ l. early s (omega arith) ∙ k.truth.same s u le (rw (lt-leb t u l) at h) ∙ sym (early u l));
  }

  write_waits : (x : Slot) → lookup o st.pending ≡ x → WaitOk L2 st.last (disk st o) (entry_of x o t v)
  write_waits none f = record {
    begun = omega arith;
    before = λ s l h. early s h ∙ (rw f at (now_from o L st k s (rw f l)));
    since = λ s l. rw (le-leb t s l) dk;
  }
  write_waits (some e) f =
      let w : WaitOk L st.last (disk st o) e = rw f at k.waits in
      let b = w.begun in
      record {
        begun = b;
        before = λ s l h. early s (omega arith) ∙ w.before s l h;
        since = λ s l. by_le t s (λ m. rw (le-leb t s m) dk) (λ m. rw (lt-leb t s m) (w.since s l));
      }

  old_row : (r : Past) → TrueRow L st.last o r → TrueRow L2 st.last o r
  old_row r h s e = let z = h s e in let l = z.1 in (early s (omega arith) ∙ z.0, l)

  write_rows : (x : Slot) → lookup o st.pending ≡ x → All (TrueRow L2 st.last o) (displaced x st o t)
  write_rows none f = all_map old_row st.past k.rows
  write_rows (some e) f =
      add_all (TrueRow L2 st.last o) (live_b st.horizon st.snapshots st.copies (closed e o t)) st.past (closed e o t)
      (all_map old_row st.past k.rows)
      (λ b s h.
      let r = held o s (closed e o t) h in
      let low = r.low in
      let high = r.high in
      (early s high ∙ (rw f at (now_from o L st k s (rw f low))), omega arith))

  write_covers : (x : Slot) → lookup o st.pending ≡ x → (s : ℕ) → needed_b st.horizon st.snapshots (mark st.copies (page_of o)) s ≡ true → s < t
      → any_b (holds_b o s) (displaced x st o t) ≡ false → L s ≡ disk st o
  write_covers none f s n l h =
      by_le (current st o).stamp s (λ m. rw f at (now_from o L st k s m)) (λ m. k.covers s n m h)
  write_covers (some e) f s n l h =
      let r = closed e o t in
      let z = add_none (holds_b o s) (live_b st.horizon st.snapshots st.copies r) st.past r h in
      by_le e.latest s
      (λ m.
      let y = holds o s r refl m l in
      clash (holds_b o s r) y (z.1 (live_needed st.horizon st.snapshots st.copies o s r n y)))
      (λ m. k.covers s n (rw f m) z.0)

  write_own : SoundAt o L2 (write_one st t o v)
  unfolding write_one
  write_own =
      let own = lookup_own o t v st.pending in
      record {
        truth = write_truth;
        now = λ s l. rw own (late s (omega arith));
        waits = rw own (write_waits (lookup o st.pending) refl);
        rows = write_rows (lookup o st.pending) refl;
        covers = λ s n l h. let m : s < t = rw own at l in early s m ∙ write_covers (lookup o st.pending) refl s n m h;
        served = λ s e l. let m = all_elem (λ x. x ≤ st.horizon) s st.snapshots e ks in rw (lt-leb t s (omega arith)) (k.served s e l);
      }

-- ---- a write
write_sound : (o : ℕ) (L : ℕ → Seen) (st : Store) (t x v : ℕ) → SoundAt o L st → st.last ≡ t → st.horizon < t → (disk st o).stamp < t
    → All (λ s. s ≤ st.horizon) st.snapshots → SoundAt o (λ s. pick (both (eqb x o) (leb t s)) (record { value = v; stamp = t }) (L s)) (write_one st t x v)
write_sound o L st t x v k q hz dk ks =
    by_test (eqb x o)
    (λ e. rw (e, eqb-true x o e) (write_own o L st t v k q hz dk ks))
    (λ e. rw e (write_other o L st t x v e k))

-- ---- a commit
writes_sound : (o : ℕ) (ws : List Write) (L : ℕ → Seen) (st : Store) (t : ℕ) → SoundAt o L st → st.last ≡ t → st.horizon < t → (disk st o).stamp < t
    → All (λ s. s ≤ st.horizon) st.snapshots → SoundAt o (λ s. writes_seen o s t ws (L s)) (writes st t ws)
unfolding write_one
writes_sound o [] L st t k q hz dk ks = k
writes_sound o (w ∷ ws) L st t k q hz dk ks =
    writes_sound o ws (λ s. write_seen o s t w (L s)) (write_one st t w.object w.value) t
    (write_sound o L st t w.object w.value k q hz dk ks) q hz dk ks

last_sound : (o : ℕ) (L : ℕ → Seen) (st : Store) (t : ℕ) → st.last < t → SoundAt o L st → SoundAt o L (last_at st t)
unfolding last_at
last_sound o L st t l k = record {
  truth = record { upto = k.truth.upto; bounded = λ s. omega (arith, k.truth.bounded s); same = k.truth.same };
  now = λ s h. k.now s (omega arith);
  waits =
      by_slot (lookup o st.pending)
      (λ f. rw f tt)
      (λ e f.
      let w : WaitOk L st.last (disk st o) e = rw f at k.waits in
      rw f (record { begun = omega (arith, w.begun); before = w.before; since = w.since }));
  rows = all_map (λ r h s e. let z = h s e in (z.0, omega (arith, z.1))) st.past k.rows;
  covers = k.covers;
  served = k.served;
}

pub commit_sound : (o : ℕ) (L : ℕ → Seen) (st : Store) (t : ℕ) (ws : List Write) → Whole st → CommitOk st t ws → SoundAt o L st
    → SoundAt o (λ s. writes_seen o s t ws (L s)) (commit_store st t ws)
unfolding last_at
commit_sound o L st t ws a c k =
    let l = c.after_last in
    writes_sound o ws L (last_at st t) t (last_sound o L st t l k) refl c.after_horizon (omega (arith, disk_last o L st k)) a.known
