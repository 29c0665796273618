-- A held store is ready for a commit, and where the judge said yes the store with the commit fits its tables.
use mathlib.Core.Path.{◌≡◌, sym, ◌∙◌}
use mathlib.Core.Bool.{true, false}
use mathlib.Core.List.{List}
use Prim.Native.Nat.{ℕ, ◌≤◌}
use lib.ListN.{length, take}
use lib.Dec.{ltb}
use Rattle.model.specs.Lists.{all_b, twice_b}
use Rattle.model.specs.Changes.{paired}
use Rattle.tables.specs.declared.Store.{Store}
use Rattle.tables.specs.Rows.{pendings}
use Rattle.tables.specs.Lookups.{Indexed}
use Rattle.tables.specs.Contents.{stored}
use Rattle.commits.specs.Promises.{Ready}
use Rattle.commits.proofs.Judged.{accepted_room}
use Rattle.restart.specs.Turns.{Held}
use Rattle.restart.proofs.Holding.{sound}
use Rattle.restart.proofs.Turning.{was_accepted}
use Rattle.restart.proofs.commit.carry.Goals as goal

ready : {s : Store} {os index : List ℕ} (vs : List ℕ) → Held s → Indexed index (take s.heads.pending (pendings s.written.pending))
    → (length os ≤ 16) × (length vs ≡ length os) × (twice_b os ≡ false) × (all_b (λ o. ltb o 512) os ≡ true) → Ready s os index
ready {s} vs h x l =
    let u = sound s h in
    record { counted = u.counted; rising = u.rising; short = l.0; once = l.2; in_range = l.3; indexed = x }

pub judge-verdict-requires : goal.judge-verdict-requires
judge-verdict-requires c = ready c.args.values.now c.requires.held c.requires.indexed c.requires.objects_len_bound

pub apply_commit-requires-clause-ready : goal.apply_commit-requires-clause-ready
apply_commit-requires-clause-ready c = ready c.args.values.now c.requires.held c.requires.indexed c.requires.objects_len_bound

pub apply_commit-requires-clause-room : goal.apply_commit-requires-clause-room
apply_commit-requires-clause-room c =
    let a = c.args in
    let l = c.requires.objects_len_bound.1 in (
      l,
      accepted_room (stored a.store.now) a.t (paired a.objects.now a.values.now)
          (sym (c.judge-verdict.ensures a.values.now l) ∙ was_accepted c.judge-verdict.result (sym c.accepts.ensures ∙ c.if-not-accepts.false)),
    )
