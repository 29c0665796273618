-- Each answer hands its tests to the law of its outcome; the end hands on what the judge promised, the writer left and the journal took.
use native.Mathlib.Omega.{arith}
use borrow.Author.Tests.{lt-ltb, le-ltb}
use Prim.Native.Nat.{ℕ, ◌<◌}
use mathlib.Core.Path.{◌≡◌, refl, ◌∙◌, sym}
use mathlib.Core.Bool.{true, false}
use mathlib.Core.List.{List}
use Rattle.model.specs.Store as model
use Rattle.model.specs.Damage.{damaged}
use Rattle.model.specs.Changes.{flush}
use Rattle.model.specs.Calls.{journal_shaped}
use Rattle.tables.specs.declared.Store.{Store}
use Rattle.tables.specs.Contents.{stored}
use Rattle.flushes.specs.Promises.{Ready}
use Rattle.flushes.proofs.Told.{accepted_room}
use Rattle.std.proofs.lemmas.Result.{err_from_is_err_and}
use Rattle.changes.proofs.Undamaged.{sound}
use Rattle.changes.proofs.Shapes.{shape_second, shape_third, formed}
use Rattle.changes.proofs.Rooms.{settled_idle, flush_idle}
use Rattle.changes.proofs.Outcomes.{left_damaged, left_shape, left_refused, Passed, made_refused, made_done}
use Rattle.changes.proofs.flushing.flush_page.Goals as goal

passed : {st : model.Store} {j : List ℕ} {used : ℕ} (page : ℕ) → damaged st ≡ false → journal_shaped j used ≡ true → page < 32 → Passed st j used true (flush page)
passed page w e p = record { whole = w; formed = shape_third refl e (lt-ltb page 32 p); once = refl }

ready : (s : Store) (page : ℕ) → damaged (stored s) ≡ false → page < 32 → Ready s page
ready s page w p = let u = sound s w in record { counted = u.counted; in_range = p; single = u.single; rising = u.rising }

pub returns-then-damaged-clause-made : goal.returns-then-damaged-clause-made
returns-then-damaged-clause-made c = left_damaged _ _ _ _ _ (sym c.damaged.ensures ∙ c.if-damaged.true)

pub returns-then-not-journal_shaped-clause-made : goal.returns-then-not-journal_shaped-clause-made
returns-then-not-journal_shaped-clause-made c =
    left_shape _ _ _ _ _ (sym c.damaged.ensures ∙ c.if-damaged.false)
    (shape_second _ refl (sym c.journal_shaped.ensures ∙ c.if-not-journal_shaped.true))

pub returns-then-page-ge32-clause-made : goal.returns-then-page-ge32-clause-made
returns-then-page-ge32-clause-made c =
    left_shape _ _ _ _ _ (sym c.damaged.ensures ∙ c.if-damaged.false)
    (shape_third refl (sym c.journal_shaped.ensures ∙ c.if-not-journal_shaped.false) (le-ltb c.args.page 32 c.if-page-ge32.true))

pub overflow_add-h : goal.overflow_add-h
overflow_add-h c =
    let n = (sound c.args.store.now (sym c.damaged.ensures ∙ c.if-damaged.false)).counted in
    omega (arith, n.pending_count, n.snapshot_count)

pub returns-then-h-eq0-clause-made : goal.returns-then-h-eq0-clause-made
returns-then-h-eq0-clause-made c =
    let a = c.args in
    left_refused
    (passed a.page (sym c.damaged.ensures ∙ c.if-damaged.false) (sym c.journal_shaped.ensures ∙ c.if-not-journal_shaped.false) c.if-page-ge32.false)
    (flush_idle a.store.now a.page c.if-h-eq0.true)
    (settled_idle a.journal.now a.used.at refl (flush a.page))
    (λ z. omega arith)

pub judge_flush-verdict-requires : goal.judge_flush-verdict-requires
judge_flush-verdict-requires c = ready c.args.store.now c.args.page (sym c.damaged.ensures ∙ c.if-damaged.false) c.if-page-ge32.false

pub settled-requires : goal.settled-requires
settled-requires c =
    let a = c.args in
    (omega arith, (formed true a.journal.now a.used.at true (shape_third refl (sym c.journal_shaped.ensures ∙ c.if-not-journal_shaped.false) refl)).placed)

pub returns-in_err-settled-clause-made : goal.returns-in_err-settled-clause-made
returns-in_err-settled-clause-made c =
    let a = c.args in
    let r = err_from_is_err_and c.from_residual.result c.from_residual.ensures.1 in
    rw (r.1, r.2)
    (made_refused
    (passed a.page (sym c.damaged.ensures ∙ c.if-damaged.false) (sym c.journal_shaped.ensures ∙ c.if-not-journal_shaped.false) c.if-page-ge32.false)
    c.judge_flush-verdict.ensures.verdict
    (c.in_err-settled.ensures (flush a.page) refl))

pub apply_flush-requires-clause-ready : goal.apply_flush-requires-clause-ready
apply_flush-requires-clause-ready c = ready c.args.store.now c.args.page (sym c.damaged.ensures ∙ c.if-damaged.false) c.if-page-ge32.false

pub apply_flush-requires-clause-room : goal.apply_flush-requires-clause-room
apply_flush-requires-clause-room c =
    let a = c.args in
    accepted_room (stored a.store.now) a.page (sym c.judge_flush-verdict.ensures.verdict ∙ (c.in_ok-settled.ensures (flush a.page) refl).0)

pub append_flush-requires : goal.append_flush-requires
append_flush-requires c = (c.in_ok-settled.ensures (flush c.args.page) refl).1

pub returns-clause-made : goal.returns-clause-made
returns-clause-made c =
    let a = c.args in
    made_done
    (passed a.page (sym c.damaged.ensures ∙ c.if-damaged.false) (sym c.journal_shaped.ensures ∙ c.if-not-journal_shaped.false) c.if-page-ge32.false)
    c.judge_flush-verdict.ensures.verdict
    (c.in_ok-settled.ensures (flush a.page) refl)
    c.apply_flush.ensures.contains
    c.append_flush.ensures
