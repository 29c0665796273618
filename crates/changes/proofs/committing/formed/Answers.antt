-- A store without damage refuses the commit with the first test that fails.
use mathlib.Core.Path.{◌∙◌, sym}
use Rattle.changes.proofs.Lists.{listed, commit_formed, listed_formed, listed_twice}
use Rattle.changes.proofs.Outcomes.{left_shape, left_twice}
use Rattle.changes.proofs.committing.formed.Goals as goal

pub returns-then-not-commit_shaped : goal.returns-then-not-commit_shaped
returns-then-not-commit_shaped c st t w =
    let a = c.args in
    left_shape _ _ _ _ _ w (commit_formed a.objects.now a.values.now _ ∙ sym c.commit_shaped.ensures ∙ c.if-not-commit_shaped.true)

pub named_twice-requires : goal.named_twice-requires
named_twice-requires c = let a = c.args in
    (listed a.objects.now a.values.now a.journal.now a.used.at (sym c.commit_shaped.ensures ∙ c.if-not-commit_shaped.false)).in_range

pub returns-then-named_twice : goal.returns-then-named_twice
returns-then-named_twice c st t w =
    let a = c.args in
    let f = listed a.objects.now a.values.now a.journal.now a.used.at (sym c.commit_shaped.ensures ∙ c.if-not-commit_shaped.false) in
    left_twice _ _ _ _ _ w (listed_formed f t) (listed_twice f t ∙ sym c.named_twice.ensures ∙ c.if-named_twice.true)
