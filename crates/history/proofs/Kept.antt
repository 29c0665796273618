-- Every accepted change keeps the invariant, so every history of accepted changes leaves a store that has it.
use Prim.Native.Nat.{ℕ, ◌<◌}
use mathlib.Core.Path.{◌≡◌, refl, sym, subst}
use mathlib.Core.Bool.{true, false}
use mathlib.Core.List.{List, [], ◌∷◌, ◌++◌}
use native.Mathlib.Nat.{le_refl}
use native.Mathlib.Omega.{arith}
use lib.ListN.{length-replicate, get_or-replicate}
use Rattle.model.specs.declared.Seen.{Seen}
use Rattle.model.specs.declared.Verdict.TheVariants.{Accepted}
use Rattle.model.specs.Store.{Store, fresh, disk}
use Rattle.model.specs.Damage.{damaged}
use Rattle.model.specs.Changes.{Change, commit, gossip, flush, after}
use Rattle.model.specs.Judgement.{well_formed, judge}
use Rattle.history.specs.History.{replay_from, replay, AcceptedFrom, AllAccepted, change_seen, latest_from, latest}
use Rattle.history.proofs.Laws.{clash}
use Rattle.history.proofs.Invariant.{SoundAt, Whole, Fits, Sound}
use Rattle.history.proofs.Judged.{commit_ok, gossip_ok, flush_ok}
use Rattle.history.proofs.Commit.{commit_sound}
use Rattle.history.proofs.Gossip.{gossip_sound}
use Rattle.history.proofs.Flush.{flush_sound}
use Rattle.history.proofs.Whole.{commit_whole, gossip_whole, flush_whole}
use Rattle.history.proofs.Room.{fresh_fits, keeps_fits}
use Rattle.history.proofs.Undamaged.{undamaged}
use Rattle.history.proofs.Parts.{latest_append}

-- ---- the fresh store
pub fresh_whole : Whole fresh
unfolding fresh
fresh_whole = record {
  rising = tt;
  known = tt;
  positive = tt;
  marks = λ p. le_refl 0;
  values_size = length-replicate {A = ℕ} 512 0;
  stamps_size = length-replicate {A = ℕ} 512 0;
  single = tt;
  pending_objects = tt;
  past_objects = tt;
  copy_pages = tt;
}

fresh_disk : (o : ℕ) → o < 512 → disk fresh o ≡ record { value = 0; stamp = 0 }
unfolding fresh
fresh_disk o b = rw (get_or-replicate {A = ℕ} 512 o 0 0 b)

pub fresh_sound : (o : ℕ) → o < 512 → SoundAt o (λ s. record { value = 0; stamp = 0 }) fresh
unfolding fresh
fresh_sound o b =
    let d = fresh_disk o b in
    record {
      truth = record { upto = λ s. omega arith; bounded = λ s. omega arith; same = λ s u l h. refl };
      now = λ s l. sym d;
      waits = tt;
      rows = tt;
      covers = λ s n l e. sym d;
      served = λ s e l. clash false e refl;
    }

-- ---- one change
pub keeps_sound : (o : ℕ) → o < 512 → (L : ℕ → Seen) (st : Store) (c : Change) → Whole st → well_formed c ≡ true → judge st c ≡ Accepted → SoundAt o L st
    → SoundAt o (λ s. change_seen o s c (L s)) (after st c)
keeps_sound o b L st (commit t ws) a w j k = commit_sound o L st t ws a (commit_ok st t ws w j) k
keeps_sound o b L st (gossip prev curr stamps) a w j k = gossip_sound o L st prev curr stamps a (gossip_ok st prev curr stamps w j) k
keeps_sound o b L st (flush p) a w j k = flush_sound o L st a k p b

pub keeps_whole : (st : Store) (c : Change) → well_formed c ≡ true → judge st c ≡ Accepted → Whole st → Whole (after st c)
keeps_whole st (commit t ws) w j a = commit_whole st t ws (commit_ok st t ws w j) a
keeps_whole st (gossip prev curr stamps) w j a = gossip_whole st prev curr stamps a (gossip_ok st prev curr stamps w j)
keeps_whole st (flush p) w j a = flush_whole st p (flush_ok st p w j).page a

-- AN ACCEPTED CHANGE KEEPS THE INVARIANT, the history extended by it
pub keeps : (h : List Change) (st : Store) (c : Change) → Sound h st → well_formed c ≡ true → judge st c ≡ Accepted → Sound (h ++ (c ∷ [])) (after st c)
keeps h st c k w j = record {
  each = λ o b.
      subst (λ L. SoundAt o L (after st c)) (λ i s. sym (latest_append o s h (c ∷ []) (record { value = 0; stamp = 0 })) i)
      (keeps_sound o b (λ s. latest h o s) st c k.whole w j (k.each o b));
  whole = keeps_whole st c w j k.whole;
  fits = keeps_fits st c w j k.fits;
}

-- ---- all changes
sound_from : (o : ℕ) → o < 512 → (h : List Change) (L : ℕ → Seen) (st : Store) → Whole st → SoundAt o L st → AcceptedFrom st h
    → SoundAt o (λ s. latest_from o s h (L s)) (replay_from st h)
sound_from o b [] L st a k g = k
sound_from o b (c ∷ cs) L st a k g =
    sound_from o b cs (λ s. change_seen o s c (L s)) (after st c) (keeps_whole st c g.0 g.1 a) (keeps_sound o b L st c a g.0 g.1 k) g.2

whole_from : (h : List Change) (st : Store) → Whole st → AcceptedFrom st h → Whole (replay_from st h)
whole_from [] st a g = a
whole_from (c ∷ cs) st a g = whole_from cs (after st c) (keeps_whole st c g.0 g.1 a) g.2

fits_from : (h : List Change) (st : Store) → Fits st → AcceptedFrom st h → Fits (replay_from st h)
fits_from [] st f g = f
fits_from (c ∷ cs) st f g = fits_from cs (after st c) (keeps_fits st c g.0 g.1 f) g.2

module _ (h : List Change) (g : AllAccepted h) where
  pub replay_sound : (o : ℕ) → o < 512 → SoundAt o (λ s. latest h o s) (replay h)
  unfolding replay
  replay_sound o b = sound_from o b h (λ s. record { value = 0; stamp = 0 }) fresh fresh_whole (fresh_sound o b) g

  pub replay_whole : Whole (replay h)
  unfolding replay
  replay_whole = whole_from h fresh fresh_whole g

  pub replay_fits : Fits (replay h)
  unfolding replay
  replay_fits = fits_from h fresh fresh_fits g

  pub replayed : Sound h (replay h)
  replayed = record { each = replay_sound; whole = replay_whole; fits = replay_fits }

  -- A STORE REACHED BY ACCEPTED CHANGES IS NEVER DAMAGED
  pub never_damaged : damaged (replay h) ≡ false
  never_damaged = undamaged (replay h) replay_whole replay_fits
