-- Each test that fails settles the answer, in the model's order; past them all the page is shown as of the largest known snapshot.
use mathlib.Core.Path.{◌≡◌, sym, ◌∙◌}
use mathlib.Core.Bool.{false}
use Rattle.model.specs.Damage.{damaged}
use Rattle.tables.specs.Rows.{pendings}
use Rattle.tables.specs.Contents.{stored}
use Rattle.damage.proofs.Laws.{blank_at, lone}
use Rattle.reads.proofs.Undamaged.{lookable}
use Rattle.reads.proofs.Answers.{read_damaged, read_refused, read_done, shaped_is}
use Rattle.reads.proofs.snapshot_read.Goals as goal
use Rattle.reads.proofs.snapshot_read.Goals.{Else-met_again}

pub returns-then-out_of_range : goal.returns-then-out_of_range
returns-then-out_of_range c = read_damaged _ _ c.args.time c.args.page c.args.buffer.now (c.out_of_range.ensures.hit c.if-out_of_range.true)

-- one entry alone is no second one
pub returns-in-Err : goal.returns-in-Err
returns-in-Err c =
    let st = c.args.store.now in
    let t = c.in-Err.ensures.told (c.out_of_range.ensures.left c.if-out_of_range.false ∙ lone st.heads.pending (pendings st.written.pending) c.if-store-lt2.true) in
    read_refused _ _ _ _ t.0 t.1

pub met_again-requires : goal.met_again-requires
met_again-requires c =
    let o = c.out_of_range.ensures in
    ((o.counted c.if-out_of_range.false).pending_count, o.low c.if-out_of_range.false, blank_at 128 512)

pub returns-then-met_again : goal.returns-then-met_again
returns-then-met_again c =
    read_damaged _ _ c.args.time c.args.page c.args.buffer.now
    (c.out_of_range.ensures.left c.if-out_of_range.false ∙ sym c.met_again.ensures.0 ∙ c.if-met_again.true)

-- past the tests of damage the store is whole
whole : (c : Else-met_again) → damaged (stored c.args.store.now) ≡ false
whole c = c.out_of_range.ensures.left c.if-out_of_range.false ∙ sym c.met_again.ensures.0 ∙ c.if-met_again.false

pub show_page-requires-clause-lookable : goal.show_page-requires-clause-lookable
show_page-requires-clause-lookable c =
    lookable c.args.store.now (c.out_of_range.ensures.counted c.if-out_of_range.false) (sym c.met_again.ensures.0 ∙ c.if-met_again.false) c.args.page
    (shaped_is c.args.page c.args.buffer.now c.in-Ok.ensures.shaped).0

pub returns-in-Ok : goal.returns-in-Ok
returns-in-Ok c =
    let w = whole (goal.at.returns-in-Ok c).Else-met_again in
    read_done _ _ _ _ (c.in-Ok.ensures.told w) c.show_page.ensures

pub returns-in-Err-shown : goal.returns-in-Err-shown
returns-in-Err-shown c =
    let t = c.in-Err-shown.ensures.told (whole (goal.at.returns-in-Err-shown c).Else-met_again) in
    read_refused _ _ _ _ t.0 t.1
