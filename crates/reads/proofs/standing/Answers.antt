-- No figures where the store is damaged, else the counts and the lag.
use mathlib.Core.Path.{sym, ◌∙◌}
use mir.Syntax.{w64}
use mir.ValLaws.{to_z-of_z}
use Rattle.reads.proofs.Figured.{figures_none, figures_told}
use Rattle.reads.proofs.standing.Goals as goal

pub returns-then-damaged : goal.returns-then-damaged
returns-then-damaged c = figures_none _ (sym c.damaged.ensures ∙ c.if-damaged.true)

pub returns : goal.returns
returns c =
    figures_told c.args.store.now (sym c.damaged.ensures ∙ c.if-damaged.false)
    (to_z-of_z w64 c.lag.result (record { sfits = c.lag.type_inv }) ∙ c.lag.ensures)
