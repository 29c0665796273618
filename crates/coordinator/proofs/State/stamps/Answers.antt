-- A count over 64 shows none; else the granted ones are shown.
use Rattle.std.proofs.Common.{◌∙◌}
use Rattle.coordinator.proofs.States.{shown_none, shown_all}
use Rattle.coordinator.proofs.State.stamps.Goals as goal

pub returns-then-self-gt64 : goal.returns-then-self-gt64
returns-then-self-gt64 c = shown_none c.args.self.now c.if-self-gt64.true

pub returns : goal.returns
returns c = c.granted.ensures ∙ shown_all c.args.self.now c.if-self-gt64.false
