-- A time at or before the horizon is settled: whatever is accepted later, a read at it shows the same.
use Prim.Native.Nat.{ℕ, ◌*◌, ◌≤◌, ◌<◌, max}
use mathlib.Core.Path.{◌≡◌, refl, ap, sym, ◌∙◌}
use mathlib.Core.Bool.{true}
use mathlib.Core.List.{List, [], ◌∷◌, ◌++◌}
use native.Mathlib.Nat.{le_refl}
use native.Mathlib.Omega.{arith}
use lib.Dec.{ltb, leb, eqb}
use borrow.Author.Tests.{ltb-true, lt-leb}
use Rattle.model.specs.declared.Seen.{Seen}
use Rattle.model.specs.declared.Verdict.TheVariants.{Accepted}
use Rattle.model.specs.Lists.{kept, elem_b}
use Rattle.model.specs.Limits.{last_tick}
use Rattle.model.specs.Store.{Store, fresh, object_at, page_as_of}
use Rattle.model.specs.Changes.{Write, Change, commit, gossip, flush, last_at, gossip_store, flush_store, after}
use Rattle.model.specs.Judgement.{well_formed, judge}
use Rattle.model.specs.Reads.{largest, snapshot_read, clock_read}
use Rattle.history.specs.History.{replay_from, replay, AcceptedFrom, AllAccepted, writes_seen, change_seen, latest_from, latest, horizon_of, told_b}
use Rattle.history.proofs.Laws.{by_test, either_left}
use Rattle.history.specs.Words.{All}
use Rattle.history.proofs.Lists.{all_map, kept_test, page_same}
use Rattle.history.proofs.Judged.{commit_ok, gossip_ok}
use Rattle.history.proofs.Writes.{writes_same}
use Rattle.history.proofs.Parts.{accepted_part, replay_parts, latest_append, told_append}
use Rattle.history.proofs.Kept.{never_damaged}
use Rattle.history.proofs.Largest.{largest_bound, largest_known}
use Rattle.history.proofs.Latest.{snapshot_read_lem}
use Rattle.history.proofs.Told.{known_told, horizon_told}
use Rattle.history.proofs.Answered.{Alike, alike_reads}

-- ---- one change
writes_steady : (o s t : ℕ) (ws : List Write) (x : Seen) → s < t → writes_seen o s t ws x ≡ x
writes_steady o s t [] x l = refl
writes_steady o s t (w ∷ ws) x l =
    by_test (eqb w.object o) (λ e. rw (e, lt-leb t s l) (writes_steady o s t ws x l)) (λ e. rw e (writes_steady o s t ws x l))

seen_steady : (o s : ℕ) (st : Store) (c : Change) (x : Seen) → well_formed c ≡ true → judge st c ≡ Accepted → s ≤ st.horizon → change_seen o s c x ≡ x
seen_steady o s st (commit t ws) x w j l = let b = (commit_ok st t ws w j).after_horizon in writes_steady o s t ws x (omega arith)
seen_steady o s st (gossip prev curr stamps) x w j l = refl
seen_steady o s st (flush p) x w j l = refl

largest_append : (time : ℕ) (l m : List ℕ) → All (λ s. time < s) m → largest time (l ++ m) ≡ largest time l
largest_append time [] [] h = refl
largest_append time [] (x ∷ xs) h = rw (lt-leb x time h.0) (largest_append time [] xs h.1)
largest_append time (x ∷ xs) m h =
    let ih = largest_append time xs m h in
    by_test (leb x time) (λ e. rw e (ap (max x) ih)) (λ e. rw e ih)

largest_steady : (time : ℕ) (st : Store) (c : Change) → time ≤ st.horizon → largest time (after st c).snapshots ≡ largest time st.snapshots
unfolding last_at gossip_store flush_store
largest_steady time st (commit t ws) l = ap (largest time) (writes_same ws (last_at st t) t).snapshots
largest_steady time st (gossip prev curr stamps) l =
    let h = st.horizon in
    largest_append time st.snapshots (kept (ltb h) stamps)
    (all_map (λ s (e : ltb h s ≡ true). omega (arith, ltb-true h s e)) (kept (ltb h) stamps) (kept_test (ltb h) stamps))
largest_steady time st (flush p) l = refl

horizon_grows : (st : Store) (c : Change) → well_formed c ≡ true → judge st c ≡ Accepted → st.horizon ≤ (after st c).horizon
unfolding last_at gossip_store flush_store
horizon_grows st (commit t ws) w j = let e = (writes_same ws (last_at st t) t).horizon in omega arith
horizon_grows st (gossip prev curr stamps) w j = let b = (gossip_ok st prev curr stamps w j).new in omega arith
horizon_grows st (flush p) w j = le_refl st.horizon

-- ---- all changes
largest_from : (time : ℕ) (k : List Change) (st : Store) → AcceptedFrom st k → time ≤ st.horizon → largest time (replay_from st k).snapshots ≡ largest time st.snapshots
largest_from time [] st a l = refl
largest_from time (c ∷ cs) st a l =
    let g = horizon_grows st c a.0 a.1 in
    largest_from time cs (after st c) a.2 (omega arith) ∙ largest_steady time st c l

seen_from : (o s : ℕ) (k : List Change) (st : Store) (x : Seen) → AcceptedFrom st k → s ≤ st.horizon → latest_from o s k x ≡ x
seen_from o s [] st x a l = refl
seen_from o s (c ∷ cs) st x a l =
    let g = horizon_grows st c a.0 a.1 in
    seen_from o s cs (after st c) (change_seen o s c x) a.2 (omega arith) ∙ seen_steady o s st c x a.0 a.1 l

-- A READ AT OR BEFORE THE HORIZON IS SETTLED
pub settled : (h k : List Change) → AllAccepted (h ++ k) → (time p u : ℕ) → p < 32 → time ≤ (replay h).horizon → elem_b u (replay h).snapshots ≡ true → u ≤ time
    → page_as_of (replay (h ++ k)) p (largest time (replay (h ++ k)).snapshots) ≡ page_as_of (replay h) p (largest time (replay h).snapshots)
unfolding replay
settled h k a time p u b l e m =
    let z = accepted_part h k fresh a in
    let s = largest time (replay h).snapshots in
    let same : largest time (replay (h ++ k)).snapshots ≡ s =
    ap (λ st. largest time st.snapshots) (replay_parts h k fresh) ∙ largest_from time k (replay h) z.1 l in
    let told : elem_b u (replay (h ++ k)).snapshots ≡ true =
    known_told (h ++ k) a u ∙ told_append u h k ∙ either_left (told_b u k) (sym (known_told h z.0 u) ∙ e) in
    let n = largest_bound time (replay h).snapshots in
    snapshot_read_lem (h ++ k) a time p u b told m
    ∙ rw same
    (page_same (λ i. (latest (h ++ k) (object_at p i) s).value) (λ i. (latest h (object_at p i) s).value)
    (λ i j.
    ap (λ x. x.value)
    (latest_append (object_at p i) s h k (record { value = 0; stamp = 0 }) ∙ seen_from (object_at p i) s k (replay h) (latest h (object_at p i) s) z.1 (omega arith))))
    ∙ sym (snapshot_read_lem h z.0 time p u b e m)

horizon_later : (k : List Change) (st : Store) → AcceptedFrom st k → st.horizon ≤ (replay_from st k).horizon
horizon_later [] st a = le_refl st.horizon
horizon_later (c ∷ cs) st a = let g = horizon_grows st c a.0 a.1 in let ih = horizon_later cs (after st c) a.2 in omega arith

-- and so is what the calls answer, whatever their arguments
pub settled_alike : (h k : List Change) → AllAccepted (h ++ k) → (time : ℕ) → time ≤ horizon_of h → Alike time (replay h) (replay (h ++ k))
unfolding replay
settled_alike h k a time l =
    let z = accepted_part h k fresh a in
    let e = horizon_told h in
    let q = replay_parts h k fresh in
    let later : (replay h).horizon ≤ (replay (h ++ k)).horizon = rw q (horizon_later k (replay h) z.1) in
    record {
      undamaged_before = never_damaged h z.0;
      undamaged_after = never_damaged (h ++ k) a;
      beyond = λ m. absurd (omega arith);
      within = λ m. omega arith;
      newest = ap (λ st. largest time st.snapshots) q ∙ largest_from time k (replay h) z.1 (omega arith);
      pages = λ p b m.
          settled h k a time p (largest time (replay h).snapshots) b (omega arith) (largest_known time (replay h).snapshots m)
          (largest_bound time (replay h).snapshots);
    }

pub settled_read : (h k : List Change) → AllAccepted (h ++ k) → (time p : ℕ) (buffer : List ℕ) → time ≤ horizon_of h
    → snapshot_read (replay (h ++ k)) time p buffer ≡ snapshot_read (replay h) time p buffer
settled_read h k a time p buffer l = alike_reads time (replay h) (replay (h ++ k)) (settled_alike h k a time l) true p buffer

pub settled_clock : (h k : List Change) → AllAccepted (h ++ k) → (tick p : ℕ) (buffer : List ℕ) → 256 * tick ≤ horizon_of h
    → clock_read (replay (h ++ k)) tick p buffer ≡ clock_read (replay h) tick p buffer
settled_clock h k a tick p buffer l = alike_reads (256 * tick) (replay h) (replay (h ++ k)) (settled_alike h k a (256 * tick) l) (leb tick last_tick) p buffer
