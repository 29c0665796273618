-- An accepted change leaves every table within its limit: that is what the tests of fullness say.
use Prim.Native.Nat.{ℕ}
use mathlib.Core.Path.{◌≡◌}
use mathlib.Core.Bool.{true, not}
use mathlib.Core.List.{List}
use native.Mathlib.Omega.{arith}
use Rattle.model.specs.declared.Verdict.TheVariants.{Accepted}
use Rattle.model.specs.Store.{Store, fresh, live_b}
use Rattle.model.specs.Changes.{Write, Change, commit, gossip, flush, last_at, commit_store, known_after, gossip_store, of_page, flush_store, after}
use Rattle.model.specs.Judgement.{well_formed, judge}
use Rattle.history.proofs.Lists.{kept_length}
use Rattle.history.proofs.Invariant.{Fits}
use Rattle.history.proofs.Judged.{CommitOk, commit_ok, GossipOk, gossip_ok, FlushOk, flush_ok}
use Rattle.history.proofs.Writes.{writes_same}

pub fresh_fits : Fits fresh
unfolding fresh
fresh_fits = record { pending_room = omega arith; past_room = omega arith; snapshot_room = omega arith; copy_room = omega arith }

commit_fits : (st : Store) (t : ℕ) (ws : List Write) → CommitOk st t ws → Fits st → Fits (commit_store st t ws)
unfolding last_at
commit_fits st t ws c f =
    let u = writes_same ws (last_at st t) t in
    record {
      pending_room = c.pending_room;
      past_room = c.past_room;
      snapshot_room = rw u.snapshots f.snapshot_room;
      copy_room = rw u.copies f.copy_room;
    }

gossip_fits : (st : Store) (prev curr : ℕ) (stamps : List ℕ) → GossipOk st prev curr stamps → Fits st → Fits (gossip_store st curr stamps)
unfolding gossip_store
gossip_fits st prev curr stamps c f = record {
  pending_room = f.pending_room;
  past_room = omega (arith, kept_length (live_b curr (known_after st stamps) st.copies) st.past, f.past_room);
  snapshot_room = c.snapshot_room;
  copy_room = f.copy_room;
}

flush_fits : (st : Store) (p : ℕ) → FlushOk st p → Fits st → Fits (flush_store st p)
unfolding flush_store
flush_fits st p c f = record {
  pending_room = omega (arith, kept_length (λ e. not (of_page p e)) st.pending, f.pending_room);
  past_room = c.past_room;
  snapshot_room = f.snapshot_room;
  copy_room = c.copy_room;
}

pub keeps_fits : (st : Store) (c : Change) → well_formed c ≡ true → judge st c ≡ Accepted → Fits st → Fits (after st c)
keeps_fits st (commit t ws) w j f = commit_fits st t ws (commit_ok st t ws w j) f
keeps_fits st (gossip prev curr stamps) w j f = gossip_fits st prev curr stamps (gossip_ok st prev curr stamps w j) f
keeps_fits st (flush p) w j f = flush_fits st p (flush_ok st p w j) f
