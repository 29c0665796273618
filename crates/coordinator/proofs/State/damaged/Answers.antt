-- A count over 64 settles it; else the stamps' order does.
use Rattle.std.proofs.Common.{◌∙◌, ap, not}
use borrow.Author.Tests.{lt-ltb}
use Rattle.model.specs.Lists.{rising_from}
use Rattle.coordinator.proofs.States.{damaged_over, damaged_rises}
use Rattle.coordinator.proofs.State.damaged.Goals as goal

pub returns-then-self-gt64 : goal.returns-then-self-gt64
returns-then-self-gt64 c = lt-ltb 64 c.args.self.now.count c.if-self-gt64.true ∙ damaged_over c.args.self.now c.if-self-gt64.true

pub returns-else-self-gt64 : goal.returns-else-self-gt64
returns-else-self-gt64 c = ap not (c.rising.ensures ∙ ap (rising_from 0) c.granted.ensures) ∙ damaged_rises c.args.self.now c.if-self-gt64.false
