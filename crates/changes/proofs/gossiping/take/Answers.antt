-- A message that passed its tests: the verdict is the model's, and what the writer left and the journal took are handed on.
use native.Mathlib.Omega.{arith}
use Prim.Native.Nat.{ℕ}
use mathlib.Core.Path.{◌≡◌, refl, ◌∙◌, sym}
use mathlib.Core.Bool.{true, false}
use mathlib.Core.List.{List}
use lib.ListN.{take}
use Rattle.model.specs.declared.Verdict.TheVariants.{Accepted}
use Rattle.model.specs.Store as model
use Rattle.model.specs.Damage.{damaged}
use Rattle.model.specs.Changes.{gossip}
use Rattle.model.specs.Judgement.{stamps_shaped, judge_gossip}
use Rattle.model.specs.Calls.{journal_shaped}
use Rattle.tables.specs.declared.Store.{Store}
use Rattle.tables.specs.Contents.{stored}
use Rattle.tables.proofs.Rising.{rises_low}
use Rattle.gossips.specs.Promises.{Ready}
use Rattle.gossips.proofs.Rising.{known_rises}
use Rattle.std.proofs.lemmas.Result.{err_from_is_err_and}
use Rattle.changes.proofs.Undamaged.{sound}
use Rattle.changes.proofs.Shapes.{shape_third, formed, stamps_short, stamps_rise}
use Rattle.changes.proofs.Rooms.{gossip_room}
use Rattle.changes.proofs.Outcomes.{Passed, made_refused, made_done}
use Rattle.changes.proofs.gossiping.take.Goals as goal

passed : {st : model.Store} {j : List ℕ} {used : ℕ} (prev curr : ℕ) (stamps : List ℕ) → damaged st ≡ false
    → (journal_shaped j used ≡ true) × (stamps_shaped prev curr stamps ≡ true) → Passed st j used true (gossip prev curr stamps)
passed prev curr stamps w s = record { whole = w; formed = shape_third refl s.0 s.1; once = refl }

ready : (s : Store) (prev curr : ℕ) (stamps : List ℕ) → damaged (stored s) ≡ false → stamps_shaped prev curr stamps ≡ true → judge_gossip (stored s) prev curr stamps ≡ Accepted
    → Ready s stamps
ready s prev curr stamps w f v =
    let u = sound s w in
    let r = stamps_rise prev curr stamps f in
    record {
      counted = u.counted;
      pages_in = u.pages_in;
      room = gossip_room s prev curr stamps v;
      stamps_rise = rises_low prev 0 stamps r (omega arith);
      rising = known_rises s.heads.horizon prev (take s.heads.snapshots s.snapshots) stamps u.rising u.known r;
    }

pub judge_gossip-verdict-requires-clause-counted : goal.judge_gossip-verdict-requires-clause-counted
judge_gossip-verdict-requires-clause-counted c = (sound c.args.store.now c.requires.whole).counted.snapshot_count

pub judge_gossip-verdict-requires-clause-well_formed : goal.judge_gossip-verdict-requires-clause-well_formed
judge_gossip-verdict-requires-clause-well_formed c =
    let a = c.args in
    let f = c.requires.shaped.1 in
    (stamps_short a.prev a.curr a.stamps.now f, stamps_rise a.prev a.curr a.stamps.now f)

pub judge_gossip-verdict-requires-clause-rising : goal.judge_gossip-verdict-requires-clause-rising
judge_gossip-verdict-requires-clause-rising c = (sound c.args.store.now c.requires.whole).rising

pub settled-requires : goal.settled-requires
settled-requires c =
    let a = c.args in
    let s = c.requires.shaped in
    (omega (arith, stamps_short a.prev a.curr a.stamps.now s.1), (formed true a.journal.now a.used.at _ (shape_third refl s.0 s.1)).placed)

pub returns-in_err-settled-clause-made : goal.returns-in_err-settled-clause-made
returns-in_err-settled-clause-made c =
    let a = c.args in
    let r = err_from_is_err_and c.from_residual.result c.from_residual.ensures.1 in
    rw (r.1, r.2)
    (made_refused (passed a.prev a.curr a.stamps.now c.requires.whole c.requires.shaped) c.judge_gossip-verdict.ensures
    (c.in_err-settled.ensures (gossip a.prev a.curr a.stamps.now) refl))

pub apply_gossip-requires : goal.apply_gossip-requires
apply_gossip-requires c =
    let a = c.args in
    ready a.store.now a.prev a.curr a.stamps.now c.requires.whole c.requires.shaped.1
    (sym c.judge_gossip-verdict.ensures ∙ (c.in_ok-settled.ensures (gossip a.prev a.curr a.stamps.now) refl).0)

pub append_gossip-requires : goal.append_gossip-requires
append_gossip-requires c =
    let a = c.args in
    (stamps_short a.prev a.curr a.stamps.now c.requires.shaped.1, (c.in_ok-settled.ensures (gossip a.prev a.curr a.stamps.now) refl).1)

pub returns-clause-made : goal.returns-clause-made
returns-clause-made c =
    let a = c.args in
    made_done (passed a.prev a.curr a.stamps.now c.requires.whole c.requires.shaped) c.judge_gossip-verdict.ensures
    (c.in_ok-settled.ensures (gossip a.prev a.curr a.stamps.now) refl)
    c.apply_gossip.ensures.contains
    c.append_gossip.ensures
