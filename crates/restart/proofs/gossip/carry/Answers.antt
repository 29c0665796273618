-- A held store is ready for a message, and where the judge said yes there is room for its stamps.
use native.Mathlib.Omega.{arith}
use mathlib.Core.Path.{sym, ◌∙◌}
use lib.ListN.{take}
use Rattle.tables.specs.Contents.{stored}
use Rattle.tables.proofs.Counts.{up_to_length}
use Rattle.tables.proofs.Rising.{rises_low}
use Rattle.gossips.proofs.Judged.{accepted_room}
use Rattle.gossips.proofs.Rising.{known_rises}
use Rattle.restart.proofs.Holding.{sound}
use Rattle.restart.proofs.Turning.{was_accepted}
use Rattle.restart.proofs.gossip.carry.Goals as goal

pub judge_gossip-verdict-requires-clause-rising : goal.judge_gossip-verdict-requires-clause-rising
judge_gossip-verdict-requires-clause-rising c = (sound c.args.store.now c.requires.held).rising

pub apply_gossip-requires : goal.apply_gossip-requires
apply_gossip-requires c =
    let a = c.args in
    let s = a.store.now in
    let u = sound s c.requires.held in
    let r = c.requires.stamps_len_bound.1 in
    let n = up_to_length 0 s.heads.snapshots s.snapshots in
    let m = accepted_room (stored s) a.prev a.curr a.stamps.now
    (sym c.judge_gossip-verdict.ensures ∙ was_accepted c.judge_gossip-verdict.result (sym c.accepts.ensures ∙ c.if-not-accepts.false)) in
    record {
      counted = u.counted;
      pages_in = u.pages_in;
      room = omega (arith, m, n);
      stamps_rise = rises_low a.prev 0 a.stamps.now r (omega arith);
      rising = known_rises s.heads.horizon a.prev (take s.heads.snapshots s.snapshots) a.stamps.now u.rising u.known r;
    }
