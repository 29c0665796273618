-- Each refusal hands its test to the law of its outcome.
use mathlib.Core.Path.{refl, ◌∙◌, sym}
use Rattle.changes.proofs.Shapes.{shape_second, shape_third}
use Rattle.changes.proofs.Outcomes.{left_damaged, left_shape}
use Rattle.changes.proofs.gossiping.tested.Goals as goal

pub returns-then-damaged-clause-made : goal.returns-then-damaged-clause-made
returns-then-damaged-clause-made c = left_damaged _ _ _ _ _ (sym c.damaged.ensures ∙ c.if-damaged.true)

pub returns-then-not-journal_shaped-clause-made : goal.returns-then-not-journal_shaped-clause-made
returns-then-not-journal_shaped-clause-made c =
    left_shape _ _ _ _ _ (sym c.damaged.ensures ∙ c.if-damaged.false)
    (shape_second _ refl (sym c.journal_shaped.ensures ∙ c.if-not-journal_shaped.true))

pub returns-then-not-stamps_shaped-clause-made : goal.returns-then-not-stamps_shaped-clause-made
returns-then-not-stamps_shaped-clause-made c =
    left_shape _ _ _ _ _ (sym c.damaged.ensures ∙ c.if-damaged.false)
    (shape_third refl (sym c.journal_shaped.ensures ∙ c.if-not-journal_shaped.false) (sym c.stamps_shaped.ensures ∙ c.if-not-stamps_shaped.true))
