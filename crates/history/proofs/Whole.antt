-- An accepted change keeps the tables whole.
use Prim.Native.Nat.{ℕ, ◌≤◌, ◌<◌}
use mathlib.Core.Path.{◌≡◌, ◌∙◌}
use mathlib.Core.Bool.{not}
use mathlib.Core.List.{List, [], ◌∷◌, ◌++◌}
use native.Mathlib.Omega.{arith}
use lib.Dec.{ltb}
use borrow.Author.Tests.{ltb-true}
use Rattle.model.specs.Lists.{kept}
use Rattle.model.specs.Store.{Store, live_b, lookup}
use Rattle.model.specs.Changes.{Write, write_one, writes, last_at, commit_store, gossip_store, copies_after, of_page, buried, stays_b, flush_store}
use Rattle.history.specs.Words.{All}
use Rattle.history.proofs.Lists.{all_map, all_append, all_kept, kept_test, all_mapped, rising_kept, rising_append}
use Rattle.history.proofs.Invariant.{Whole}
use Rattle.history.proofs.Judged.{CommitOk, GossipOk}
use Rattle.history.proofs.Writes.{single_put, put_objects, displaced_objects}
use Rattle.history.proofs.Entries.{single_kept, stored_length}
use Rattle.history.proofs.Dues.{copied_page}
use Rattle.history.proofs.Archive.{news, marks_after, graves}

-- ---- a commit
write_whole : (st : Store) (t x v : ℕ) → x < 512 → Whole st → Whole (write_one st t x v)
unfolding write_one
write_whole st t x v b a = record {
  rising = a.rising;
  known = a.known;
  positive = a.positive;
  marks = a.marks;
  values_size = a.values_size;
  stamps_size = a.stamps_size;
  single = single_put x t v st.pending a.single;
  pending_objects = put_objects x t v st.pending b a.pending_objects;
  past_objects = displaced_objects (lookup x st.pending) st x t b a.past_objects;
  copy_pages = a.copy_pages;
}

writes_whole : (ws : List Write) (st : Store) (t : ℕ) → All (λ w. w.object < 512) ws → Whole st → Whole (writes st t ws)
writes_whole [] st t b a = a
writes_whole (w ∷ ws) st t b a = writes_whole ws (write_one st t w.object w.value) t b.1 (write_whole st t w.object w.value b.0 a)

pub commit_whole : (st : Store) (t : ℕ) (ws : List Write) → CommitOk st t ws → Whole st → Whole (commit_store st t ws)
unfolding last_at
commit_whole st t ws c a =
    writes_whole ws (last_at st t) t c.objects
    (record {
      rising = a.rising;
      known = a.known;
      positive = a.positive;
      marks = a.marks;
      values_size = a.values_size;
      stamps_size = a.stamps_size;
      single = a.single;
      pending_objects = a.pending_objects;
      past_objects = a.past_objects;
      copy_pages = a.copy_pages;
    })

-- ---- gossip
pub gossip_whole : (st : Store) (prev curr : ℕ) (stamps : List ℕ) → Whole st → GossipOk st prev curr stamps → Whole (gossip_store st curr stamps)
unfolding gossip_store
gossip_whole st prev curr stamps a c =
    let h = st.horizon in
    let new = c.new in
    let added = kept (ltb h) stamps in
    let beyond : All (λ s. h < s) added = all_map (λ s e. ltb-true h s e) added (kept_test (ltb h) stamps) in
    record {
      rising = rising_append h st.snapshots added a.rising a.known (rising_kept (ltb h) stamps c.rising) beyond;
      known =
          all_append (λ s. s ≤ curr) st.snapshots added
          (all_map (λ s (l : s ≤ h). omega arith) st.snapshots a.known)
          (all_map (λ s (b : (prev < s) × (s ≤ curr)). b.1) added (all_kept (λ s. (prev < s) × (s ≤ curr)) (ltb h) stamps c.bounds));
      positive =
          all_append (λ s. 0 < s) st.snapshots added a.positive (all_map (λ s (l : h < s). omega arith) added beyond);
      marks = λ p. omega (arith, a.marks p);
      values_size = a.values_size;
      stamps_size = a.stamps_size;
      single = a.single;
      pending_objects = a.pending_objects;
      past_objects = all_kept (λ q. q.object < 512) (live_b curr (st.snapshots ++ added) st.copies) st.past a.past_objects;
      copy_pages = a.copy_pages;
    }

-- ---- a flush
pub flush_whole : (st : Store) (p : ℕ) → p < 32 → Whole st → Whole (flush_store st p)
unfolding flush_store copies_after
flush_whole st p b a = record {
  rising = a.rising;
  known = a.known;
  positive = a.positive;
  marks = marks_after st p a;
  values_size = stored_length p (λ e. e.value) st.pending st.values ∙ a.values_size;
  stamps_size = stored_length p (λ e. e.latest) st.pending st.stamps ∙ a.stamps_size;
  single = single_kept (λ e. not (of_page p e)) st.pending a.single;
  pending_objects = all_kept (λ e. e.object < 512) (λ e. not (of_page p e)) st.pending a.pending_objects;
  past_objects =
      all_kept (λ q. q.object < 512) (stays_b st.horizon st.snapshots (copies_after st p) p) (st.past ++ graves st p)
      (all_append (λ q. q.object < 512) st.past (graves st p) a.past_objects
      (all_mapped (λ q. q.object < 512) (buried st) (kept (of_page p) st.pending) (all_kept (λ e. e.object < 512) (of_page p) st.pending a.pending_objects)));
  copy_pages =
      all_append (λ c. c.page < 32) st.copies (news st p) a.copy_pages
      (all_map (λ c (e : c.page ≡ p). omega arith) (news st p) (copied_page st p st.snapshots));
}
