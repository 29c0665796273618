-- A tick whose time is a stamp is a read at that time; beyond it a store that is not damaged answers Shape.
use Prim.Native.Nat.{◌*◌}
use mathlib.Core.Path.{sym, ◌∙◌}
use native.Mathlib.Omega.{arith}
use lib.Dec.{leb}
use borrow.Author.Tests.{lt-leb}
use Rattle.model.specs.Limits.{last_tick}
use Rattle.reads.proofs.Answers.{read_damaged, read_bad}
use Rattle.reads.proofs.clock_read.Goals as goal

pub returns-then-damaged : goal.returns-then-damaged
returns-then-damaged c =
    let a = c.args in
    read_damaged _ (leb a.tick last_tick) (256 * a.tick) a.page a.buffer.now (sym c.damaged.ensures ∙ c.if-damaged.true)

pub returns : goal.returns
returns c =
    let a = c.args in
    read_bad _ (leb a.tick last_tick) (256 * a.tick) a.page a.buffer.now (sym c.damaged.ensures ∙ c.if-damaged.false) (lt-leb a.tick last_tick (omega (arith, c.in_default.ensures)))
