-- Each test settles an answer, in the model's order; past them all the stamp is added.
use Rattle.std.proofs.Common.{◌∙◌, ◌<◌, sym, arith}
use Rattle.model.specs.Coordinator.{top, stamp_of}
use Rattle.coordinator.specs.States.{held}
use Rattle.coordinator.proofs.States.{sound, granted_length}
use Rattle.coordinator.proofs.Grants.{say_damaged, say_tick, say_node, say_late, say_full, say_granted}
use Rattle.coordinator.proofs.State.grant.Goals as goal

pub returns-then-damaged : goal.returns-then-damaged
returns-then-damaged c = say_damaged (held c.args.self.now) c.args.tick c.args.node (sym c.damaged.ensures ∙ c.if-damaged.true)

pub returns-then-tick-gt-LAST_TICK : goal.returns-then-tick-gt-LAST_TICK
returns-then-tick-gt-LAST_TICK c =
    say_tick (held c.args.self.now) c.args.tick c.args.node (sym c.damaged.ensures ∙ c.if-damaged.false) (omega arith)

pub returns-then-node-ge256 : goal.returns-then-node-ge256
returns-then-node-ge256 c =
    say_node (held c.args.self.now) c.args.tick c.args.node (sym c.damaged.ensures ∙ c.if-damaged.false) (omega arith)

pub top-top-requires : goal.top-top-requires
top-top-requires c = sound c.args.self.now (sym c.damaged.ensures ∙ c.if-damaged.false)

pub returns-then-stamp-top : goal.returns-then-stamp-top
returns-then-stamp-top c =
    let t = c.top-top.ensures in
    let whole = sym c.damaged.ensures ∙ c.if-damaged.false in
    rw t (say_late (held c.args.self.now) c.args.tick c.args.node whole (omega arith) (omega arith) (omega (arith, t)))

pub returns-then-self-ge64 : goal.returns-then-self-ge64
returns-then-self-ge64 c =
    let whole = sym c.damaged.ensures ∙ c.if-damaged.false in
    let late : top (held c.args.self.now) < stamp_of c.args.tick c.args.node = omega (arith, c.top-top.ensures) in
    say_full (held c.args.self.now) c.args.tick c.args.node whole (omega arith) (omega arith) late (omega (arith, granted_length c.args.self.now))

pub returns : goal.returns
returns c =
    let whole = sym c.damaged.ensures ∙ c.if-damaged.false in
    let late : top (held c.args.self.now) < stamp_of c.args.tick c.args.node = omega (arith, c.top-top.ensures) in
    rw c.add.ensures
    (say_granted (held c.args.self.now) c.args.tick c.args.node whole (omega arith) (omega arith) late (omega (arith, granted_length c.args.self.now)))
