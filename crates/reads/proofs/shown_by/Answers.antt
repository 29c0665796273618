-- Each test that fails tells why; past them all the largest known snapshot is shown.
use mathlib.Core.Path.{◌≡◌, refl, ap, sym, ◌∙◌}
use borrow.Author.Rules.{rules}
use Rattle.model.specs.Reads.{largest}
use Rattle.tables.specs.Contents.{stored}
use Rattle.reads.proofs.Undamaged.{known}
use Rattle.reads.proofs.Answers.{misshaped, ahead, unknown, found}
use Rattle.reads.proofs.shown_by.Goals as goal
use Rattle.reads.proofs.shown_by.Goals.{After-largest_known-s}

pub returns-then-not-read_shaped-clause-told : goal.returns-then-not-read_shaped-clause-told
returns-then-not-read_shaped-clause-told c d = (misshaped _ _ _ d (sym c.read_shaped.ensures ∙ c.if-not-read_shaped.true), refl)

pub returns-then-h-time-clause-told : goal.returns-then-h-time-clause-told
returns-then-h-time-clause-told c d = (ahead _ _ _ d (sym c.read_shaped.ensures ∙ c.if-not-read_shaped.false) c.if-h-time.true, refl)

-- the snapshot is the largest of the store's
told : (c : After-largest_known-s) → c.largest_known-s.result ≡ largest c.args.time (stored c.args.store.now).snapshots
told c = c.largest_known-s.ensures ∙ sym (ap (largest c.args.time) (known c.args.store.now c.requires.0 (search rules)))

pub returns-then-s-eq0-clause-told : goal.returns-then-s-eq0-clause-told
returns-then-s-eq0-clause-told c d =
    let e = told (goal.at.returns-then-s-eq0-clause-told c).After-largest_known-s in
    (unknown _ _ _ d (sym c.read_shaped.ensures ∙ c.if-not-read_shaped.false) c.if-h-time.false (sym e ∙ c.if-s-eq0.true), refl)

pub returns-clause-told : goal.returns-clause-told
returns-clause-told c d =
    let e = told (goal.at.returns-clause-told c).After-largest_known-s in
    rw e (found _ _ _ d (sym c.read_shaped.ensures ∙ c.if-not-read_shaped.false) c.if-h-time.false (λ z. c.if-s-eq0.false (e ∙ z)))
