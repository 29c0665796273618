-- The store after a message: the known snapshots, and the past values that live on.
use Rattle.std.specs.Prelude.{None}
use Prim.Native.Nat.{ℕ, ◌≤◌}
use mathlib.Core.Path.{◌≡◌, refl, sym, ◌∙◌, subst}
use mathlib.Core.Bool.{Bool, true}
use mathlib.Core.List.{List, [], ◌∷◌, ◌++◌}
use native.Mathlib.Omega.{arith}
use lib.ListN.{length, take, get_or, length-take}
use lib.Dec.{ltb}
use Rattle.model.specs.Lists.{kept, rising_from}
use Rattle.model.specs.Store.{mark}
use Rattle.model.specs.Changes.{gossip_store}
use Rattle.tables.specs.declared.Store.{Store}
use Rattle.tables.specs.Rows.{past_of, pasts, copy_heads, copies_of, up_to}
use Rattle.tables.specs.Lookups.{stays_by}
use Rattle.tables.specs.Contents.{Counted}
use Rattle.tables.proofs.Cases.{by_test}
use Rattle.tables.proofs.Copies.{no_copy, copies_of_length}
use Rattle.tables.proofs.Counts.{up_to_take}
use Rattle.tables.proofs.Bridges.{kept_every}
use Rattle.gossips.specs.Promises.{Ready, Added, LivesOn, Applied, with_past, with_snapshots, with_horizon}

-- a test keeps at most all
kept_most : {A : Type 0} (f : A → Bool) (l : List A) → length (kept f l) ≤ length l
kept_most f [] = omega arith
kept_most f (x ∷ xs) = let ih = kept_most f xs in by_test (f x) (λ e. rw e (omega arith)) (λ e. rw e (omega arith))

-- ---- the known snapshots
pub added_rises : {store : Store} {snapshots' : List ℕ} {k : ℕ} {stamps : List ℕ}
    → Ready store stamps → Added store.snapshots snapshots' store.heads.snapshots k store.heads.horizon stamps → rising_from 0 (take k snapshots') ≡ true
added_rises a s = rw s.known a.rising

-- ---- the past values that live on, where the marks are those of the copies
pub none_live : (s : Store) (horizon : ℕ) → s.heads.past ≡ 0 → LivesOn s s horizon
none_live s horizon e = record { live = rw e; count = omega arith; same = refl }

module _ (s : Store) (horizon : ℕ) (c : Counted s.heads) (l : length s.snapshots ≡ 64) (m : length (copy_heads s.copies) ≡ 128) (p : length (pasts s.written.past) ≡ 256) where
  pub lives_on : (past' : List (List ℕ)) (r : ℕ) (marks : List ℕ) → ((words : List ℕ) (p : ℕ) → get_or marks p 0 ≡ mark (take s.heads.copies (copies_of (copy_heads s.copies) words)) p)
      → (take r (pasts past') ≡ kept (stays_by None horizon (take s.heads.snapshots s.snapshots) marks) (take s.heads.past (pasts s.written.past))) × (r ≡ length (kept (stays_by None horizon (take s.heads.snapshots s.snapshots) marks) (take s.heads.past (pasts s.written.past)))) × (length (pasts past') ≡ 256)
      → LivesOn s (with_past s past' r) horizon
  lives_on past' r marks e d =
      let n : r ≤ s.heads.past = omega (arith, d.1, kept_most (stays_by None horizon (take s.heads.snapshots s.snapshots) marks) (take s.heads.past (pasts s.written.past)), length-take s.heads.past (pasts s.written.past)) in
      let w : s.heads.copies ≤ length (copies_of (copy_heads s.copies) s.copied) = rw (copies_of_length (copy_heads s.copies) s.copied) (omega arith) in
      record {
        live =
            rw (
              up_to_take (past_of []) r (pasts past') (omega (arith, d.2)),
              up_to_take 0 s.heads.snapshots s.snapshots (omega arith),
              up_to_take no_copy s.heads.copies (copies_of (copy_heads s.copies) s.copied) w,
              up_to_take (past_of []) s.heads.past (pasts s.written.past) (omega arith),
            )
            (d.0 ∙ kept_every horizon (take s.heads.snapshots s.snapshots) marks (take s.heads.copies (copies_of (copy_heads s.copies) s.copied)) (e s.copied) (take s.heads.past (pasts s.written.past)));
        count = n;
        same = refl;
      }

-- ---- the whole message
module _ (s : Store) (curr : ℕ) (stamps : List ℕ) (a : Ready s stamps) (l : length s.snapshots ≡ 64) (snapshots' : List ℕ) (k : ℕ) (g : Added s.snapshots snapshots' s.heads.snapshots k s.heads.horizon stamps) where
  pub known_counted : Counted (with_snapshots s snapshots' k).heads
  known_counted =
      let c = a.counted in
      record { pending_count = c.pending_count; past_count = c.past_count; snapshot_count = omega (arith, a.room, g.count); copy_count = c.copy_count }

  known_after_lem : up_to 0 k snapshots' ≡ up_to 0 s.heads.snapshots s.snapshots ++ kept (ltb s.heads.horizon) stamps
  known_after_lem =
      let c = a.counted in
      rw (up_to_take 0 k snapshots' (omega (arith, a.room, g.count, g.words)), up_to_take 0 s.heads.snapshots s.snapshots (omega arith)) g.known

  applied_known : (past' : List (List ℕ)) (r : ℕ) → LivesOn (with_snapshots s snapshots' k) (with_past (with_snapshots s snapshots' k) past' r) curr
      → Applied s (with_horizon (with_past (with_snapshots s snapshots' k) past' r) curr) curr stamps
  unfolding gossip_store
  applied_known past' r d =
      let c = known_counted in
      record {
        contains = rw (d.live, known_after_lem);
        counted = record { pending_count = c.pending_count; past_count = omega (arith, d.count, c.past_count); snapshot_count = c.snapshot_count; copy_count = c.copy_count };
        untouched = record { disk = refl; dated = refl; pending = refl; copies = refl; copied = refl; pending_count = refl; copy_count = refl };
      }

  pub applied_whole : (s' : Store) → LivesOn (with_snapshots s snapshots' k) s' curr → Applied s (with_horizon s' curr) curr stamps
  applied_whole s' d =
      subst (λ (x : Store). Applied s (with_horizon x curr) curr stamps) (sym d.same)
      (applied_known s'.written.past s'.heads.past (record { live = d.live; count = d.count; same = refl }))
