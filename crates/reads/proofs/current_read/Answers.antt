-- Each test that fails settles the answer; past them all the tables show the page as it is now.
use mathlib.Core.Path.{◌≡◌, sym, ◌∙◌}
use mathlib.Core.Bool.{false}
use Rattle.model.specs.Damage.{damaged}
use Rattle.tables.specs.Contents.{stored}
use Rattle.damage.proofs.Laws.{blank_at}
use Rattle.reads.proofs.Undamaged.{lookable}
use Rattle.reads.proofs.Answers.{now_damaged, now_misshaped, now_done, shaped_is}
use Rattle.reads.proofs.current_read.Goals as goal
use Rattle.reads.proofs.current_read.Goals.{Else-met_again}

pub returns-then-out_of_range : goal.returns-then-out_of_range
returns-then-out_of_range c = now_damaged _ c.args.page c.args.buffer.now (c.out_of_range.ensures.hit c.if-out_of_range.true)

pub met_again-requires : goal.met_again-requires
met_again-requires c =
    let o = c.out_of_range.ensures in
    ((o.counted c.if-out_of_range.false).pending_count, o.low c.if-out_of_range.false, blank_at 128 512)

-- past the tests of the ranges, damage is two entries of one object
pub returns-then-met_again : goal.returns-then-met_again
returns-then-met_again c =
    now_damaged _ c.args.page c.args.buffer.now
    (c.out_of_range.ensures.left c.if-out_of_range.false ∙ sym c.met_again.ensures.0 ∙ c.if-met_again.true)

-- past the tests of damage the store is whole
whole : (c : Else-met_again) → damaged (stored c.args.store.now) ≡ false
whole c = c.out_of_range.ensures.left c.if-out_of_range.false ∙ sym c.met_again.ensures.0 ∙ c.if-met_again.false

pub returns-then-not-read_shaped : goal.returns-then-not-read_shaped
returns-then-not-read_shaped c =
    let w = whole (goal.at.returns-then-not-read_shaped c).Else-met_again in
    now_misshaped _ c.args.page c.args.buffer.now w (sym c.read_shaped.ensures ∙ c.if-not-read_shaped.true)

pub look_at-requires-clause-lookable : goal.look_at-requires-clause-lookable
look_at-requires-clause-lookable c =
    lookable c.args.store.now (c.out_of_range.ensures.counted c.if-out_of_range.false) (sym c.met_again.ensures.0 ∙ c.if-met_again.false) c.args.page
    (shaped_is c.args.page c.args.buffer.now (sym c.read_shaped.ensures ∙ c.if-not-read_shaped.false)).0

pub returns : goal.returns
returns c =
    let st = c.args.store.now in
    let w = whole (goal.at.returns c).Else-met_again in
    now_done _ c.args.page c.args.buffer.now w (sym c.read_shaped.ensures ∙ c.if-not-read_shaped.false) (c.look_at.ensures st.snapshots st.copies st.copied)
