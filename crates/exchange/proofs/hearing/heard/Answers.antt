-- Bytes that are no message are unheard. Past those tests hearing is gossip, and what is left of a gossip is taken.
use Prim.Native.Nat.{ℕ}
use mathlib.Core.Path.{◌≡◌, refl, sym, ◌∙◌}
use mathlib.Core.Bool.{true, false}
use mathlib.Core.List.{List}
use lib.ListN.{take}
use Rattle.std.specs.Prelude.{Result, Ok, Err}
use Rattle.model.specs.declared.Answer.{Answer}
use Rattle.model.specs.Store.{Store}
use Rattle.model.specs.Damage.{damaged}
use Rattle.model.specs.Changes.{gossip}
use Rattle.model.specs.Calls.{Outcome, change}
use Rattle.model.specs.Exchange as model
use Rattle.journal.specs.declared.place.Place.{Place}
use Rattle.tables.specs.Contents.{stored}
use Rattle.changes.specs.Left.{Left, Made}
use Rattle.changes.proofs.Shapes.{shape_second}
use Rattle.changes.proofs.Outcomes.{left_shape}
use Rattle.exchange.specs.Messages.{framed_b}
use Rattle.exchange.proofs.Messages.{deaf, unframed, unshaped, as_gossip}
use Rattle.exchange.proofs.hearing.heard.Goals as goal
use Rattle.exchange.proofs.hearing.heard.Goals.{Else-damaged, Else-not-framed, Else-not-stamps_shaped}

-- ---- past the first test the store is whole
whole : (c : Else-damaged) → damaged (stored c.args.store.now) ≡ false
whole c = sym c.damaged.ensures ∙ c.if-damaged.false

-- ---- past the second the bytes have a frame
there : (c : Else-not-framed) → framed_b c.args.message.now ≡ true
there c = sym c.framed.ensures ∙ c.if-not-framed.false

-- ---- past the third the stamps are in shape, and hearing is gossip
heard : (c : Else-not-stamps_shaped) {x : Answer} {st : Store} {j : List ℕ} {n : ℕ} → let a = c.args in let g = c.read_message-head.result in
    Left (change (stored a.store.now) a.journal.now a.used.at true (gossip g.prev g.curr (take g.count c.read_message-head.new.stamps))) x st j n
    → Left (model.hear (stored a.store.now) a.journal.now a.used.at a.message.now) x st j n
heard c l =
    let a = c.args in
    let p = goal.at.Else-not-stamps_shaped c in
    as_gossip a.message.now _ a.journal.now a.used.at (whole p.Else-damaged) (there p.Else-not-framed) c.read_message-head.ensures
    (sym c.stamps_shaped.ensures ∙ c.if-not-stamps_shaped.false) l

-- ---- what is promised of one outcome is promised of another that has the same parts
made_as : {x y : Outcome} → ((a : Answer) (st : Store) (j : List ℕ) (n : ℕ) → Left x a st j n → Left y a st j n)
    → (r : Result Place Answer) (st : Store) (j : List ℕ) (n : ℕ) → Made x r st j n → Made y r st j n
made_as f (Ok p) st j n l = f _ _ _ _ l
made_as f (Err a) st j n l = f _ _ _ _ l

pub returns-then-damaged-clause-made : goal.returns-then-damaged-clause-made
returns-then-damaged-clause-made c =
    let a = c.args in
    deaf a.message.now _ a.journal.now a.used.at (sym c.damaged.ensures ∙ c.if-damaged.true)

pub returns-then-not-framed-clause-made : goal.returns-then-not-framed-clause-made
returns-then-not-framed-clause-made c =
    let a = c.args in
    let p = goal.at.returns-then-not-framed-clause-made c in
    unframed a.message.now _ a.journal.now a.used.at (whole p.Else-damaged) (sym c.framed.ensures ∙ c.if-not-framed.true)

pub returns-then-not-stamps_shaped-clause-made : goal.returns-then-not-stamps_shaped-clause-made
returns-then-not-stamps_shaped-clause-made c =
    let a = c.args in
    let p = goal.at.returns-then-not-stamps_shaped-clause-made c in
    unshaped a.message.now _ a.journal.now a.used.at (whole p.Else-damaged) (there p.Else-not-framed) c.read_message-head.ensures (sym c.stamps_shaped.ensures ∙ c.if-not-stamps_shaped.true)

pub returns-then-not-journal_shaped-clause-made : goal.returns-then-not-journal_shaped-clause-made
returns-then-not-journal_shaped-clause-made c =
    let p = goal.at.returns-then-not-journal_shaped-clause-made c in
    heard p.Else-not-stamps_shaped (left_shape _ _ _ _ _ (whole p.Else-damaged) (shape_second _ refl (sym c.journal_shaped.ensures ∙ c.if-not-journal_shaped.true)))

pub returns-clause-made : goal.returns-clause-made
returns-clause-made c =
    let p = goal.at.returns-clause-made c in
    made_as (λ a st j n l. heard p.Else-not-stamps_shaped l) c.take.result _ _ _ c.take.ensures.made
