-- No flush alters what is read.
use Prim.Native.Nat.{ℕ, ◌*◌, ◌<◌}
use mathlib.Core.Path.{◌≡◌, refl, ap, sym, ◌∙◌}
use mathlib.Core.Bool.{true, false}
use mathlib.Core.List.{List}
use lib.Dec.{ltb, leb}
use borrow.Author.Tests.{ltb-true}
use Rattle.model.specs.declared.Answer.TheVariants.{Done}
use Rattle.model.specs.declared.Verdict.TheVariants.{Accepted}
use Rattle.model.specs.Lists.{elem_b}
use Rattle.model.specs.Limits.{last_tick}
use Rattle.model.specs.Store.{Store, object_at, current, as_of, page_as_of, page_now}
use Rattle.model.specs.Damage.{damaged}
use Rattle.model.specs.Changes.{Change, flush, flush_store, after}
use Rattle.model.specs.Judgement.{well_formed, judge}
use Rattle.model.specs.Reads.{read_shaped, largest, snapshot_read, clock_read, current_read}
use Rattle.history.specs.History.{replay, AllAccepted, latest}
use Rattle.history.proofs.Laws.{by_test, both_left}
use Rattle.history.proofs.Lists.{page_same}
use Rattle.history.proofs.Invariant.{SoundAt}
use Rattle.history.proofs.Sound.{read_true}
use Rattle.history.proofs.Disk.{flush_current}
use Rattle.history.proofs.Flush.{flush_sound}
use Rattle.history.proofs.Undamaged.{undamaged}
use Rattle.history.proofs.Kept.{keeps, replay_sound, replay_whole, replayed, never_damaged}
use Rattle.history.proofs.Largest.{largest_known}
use Rattle.history.proofs.Latest.{reads_latest, page_objects}
use Rattle.history.proofs.Answered.{now_misshaped, now_done, Alike, alike_reads}

abbrev pub flushed : List Change → ℕ → Store
flushed h q = after (replay h) (flush q)

module _ (h : List Change) (g : AllAccepted h) (q : ℕ) where
  pub same_snapshots : (flushed h q).snapshots ≡ (replay h).snapshots
  unfolding flush_store
  same_snapshots = refl

  flushed_sound : (o : ℕ) → o < 512 → SoundAt o (λ s. latest h o s) (flushed h q)
  flushed_sound o i = flush_sound o (λ s. latest h o s) (replay h) (replay_whole h g) (replay_sound h g o i) q i

  pub same_object : (o s : ℕ) → o < 512 → elem_b s (replay h).snapshots ≡ true → as_of (flushed h q) o s ≡ as_of (replay h) o s
  same_object o s i e =
      read_true o (λ s. latest h o s) (flushed h q) (flushed_sound o i) s (ap (elem_b s) same_snapshots ∙ e) ∙ sym (reads_latest h g o s i e)

  pub same_page : (p s : ℕ) → p < 32 → elem_b s (replay h).snapshots ≡ true → page_as_of (flushed h q) p s ≡ page_as_of (replay h) p s
  unfolding page_as_of
  same_page p s i e =
      page_same (λ k. as_of (flushed h q) (object_at p k) s) (λ k. as_of (replay h) (object_at p k) s) (λ k j. same_object (object_at p k) s (page_objects p k i j) e)

  pub same_current : (o : ℕ) → o < 512 → current (flushed h q) o ≡ current (replay h) o
  same_current o i = flush_current o (replay h) q (replay_whole h g) i

  pub same_now : (p : ℕ) → p < 32 → page_now (flushed h q) p ≡ page_now (replay h) p
  unfolding page_now
  same_now p i =
      page_same (λ k. (current (flushed h q) (object_at p k)).value) (λ k. (current (replay h) (object_at p k)).value)
      (λ k j. ap (λ x. x.value) (same_current (object_at p k) (page_objects p k i j)))

-- ---- nor what the reads answer, whatever their arguments
module _ (h : List Change) (g : AllAccepted h) (q : ℕ) (w : well_formed (flush q) ≡ true) (j : judge (replay h) (flush q) ≡ Accepted) where
  flushed_undamaged : damaged (flushed h q) ≡ false
  flushed_undamaged = let k = keeps h (replay h) (flush q) (replayed h g) w j in undamaged (flushed h q) k.whole k.fits

  flushed_alike : (time : ℕ) → Alike time (replay h) (flushed h q)
  unfolding flush_store
  flushed_alike time = record {
    undamaged_before = never_damaged h g;
    undamaged_after = flushed_undamaged;
    beyond = λ l. refl;
    within = λ l. l;
    newest = refl;
    pages = λ p b l. same_page h g q p (largest time (replay h).snapshots) b (largest_known time (replay h).snapshots l);
  }

  pub same_read : (time p : ℕ) (buffer : List ℕ) → snapshot_read (flushed h q) time p buffer ≡ snapshot_read (replay h) time p buffer
  same_read time p buffer = alike_reads time (replay h) (flushed h q) (flushed_alike time) true p buffer

  pub same_clock : (tick p : ℕ) (buffer : List ℕ) → clock_read (flushed h q) tick p buffer ≡ clock_read (replay h) tick p buffer
  same_clock tick p buffer = alike_reads (256 * tick) (replay h) (flushed h q) (flushed_alike (256 * tick)) (leb tick last_tick) p buffer

  pub same_current_read : (p : ℕ) (buffer : List ℕ) → current_read (flushed h q) p buffer ≡ current_read (replay h) p buffer
  same_current_read p buffer =
      let d = never_damaged h g in
      by_test (read_shaped p buffer)
      (λ r.
      now_done (flushed h q) flushed_undamaged p buffer r
      ∙ ap (λ x. record { answer = Done 0; buffer = x }) (same_now h g q p (ltb-true p 32 (both_left (ltb p 32) _ r)))
      ∙ sym (now_done (replay h) d p buffer r))
      (λ r. now_misshaped (flushed h q) flushed_undamaged p buffer r ∙ sym (now_misshaped (replay h) d p buffer r))
