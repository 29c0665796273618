-- From the last row to the first, `marks` holds each page's mark by the copies passed.
use Prim.Native.Nat.{◌<◌}
use mathlib.Core.Path.{◌≡◌, ◌∙◌, ap}
use native.Mathlib.Omega.{arith}
use lib.ListN.{length-set, replicate}
use borrow.Author.Rules.{rules}
use Rattle.tables.specs.Rows.{copy_heads}
use Rattle.tables.proofs.Backward.{Turn}
use Rattle.tables.proofs.Copies.{rows_turn}
use Rattle.tables.proofs.Marks.{zeros, mark_start, mark_end, page_in, marks_new, marks_old}
use Rattle.tables.proofs.lookups.marks_of.Goals as goal
use Rattle.tables.proofs.lookups.marks_of.Goals.{After-copy_at-c, In-loop-i}

-- a turn's bounds
turn : (c : In-loop-i) → Turn (copy_heads c.args.t.now) c.args.n c.loop-i.i
turn c = rows_turn _ (search rules) (omega arith) (omega arith)

-- the copy's page is one of the 32
below : (c : After-copy_at-c) → c.copy_at-c.result.page < 32
below c = page_in (turn c.before) c.copy_at-c.ensures 32 c.requires.1

pub offset_bounds-marks-page : goal.offset_bounds-marks-page
offset_bounds-marks-page c = omega (arith, below (goal.at.offset_bounds-marks-page c).After-copy_at-c)

pub bounds-marks-page : goal.bounds-marks-page
bounds-marks-page c = omega (arith, below (goal.at.bounds-marks-page c).After-copy_at-c)

pub offset_bounds-marks-page-then-marks-page : goal.offset_bounds-marks-page-then-marks-page
offset_bounds-marks-page-then-marks-page c = omega (arith, below (goal.at.offset_bounds-marks-page-then-marks-page c).After-copy_at-c)

pub bounds-marks-page-then-marks-page : goal.bounds-marks-page-then-marks-page
bounds-marks-page-then-marks-page c = omega (arith, below (goal.at.bounds-marks-page-then-marks-page c).After-copy_at-c)

pub loop-i-preserved-then-marks-page : goal.loop-i-preserved-then-marks-page
loop-i-preserved-then-marks-page c = let v = c.loop-i in
    let h = below (goal.at.loop-i-preserved-then-marks-page c).After-copy_at-c in
    (simp length-set v.invariant.0, marks_new (turn (goal.at.loop-i-preserved-then-marks-page c).In-loop-i) c.copy_at-c.ensures v.marks (omega arith) v.invariant.1 c.if-marks-page.true)

pub loop-i-preserved : goal.loop-i-preserved
loop-i-preserved c = let v = c.loop-i in
    let h = below (goal.at.loop-i-preserved c).After-copy_at-c in
    (v.invariant.0, marks_old (turn (goal.at.loop-i-preserved c).In-loop-i) c.copy_at-c.ensures v.marks (omega arith) v.invariant.1 c.if-marks-page.false)

pub loop-i-init : goal.loop-i-init
loop-i-init c =
    let a = c.args in
    let z : c.fill.new.self ≡ replicate 32 0 = c.fill.ensures.after (λ y e. search rules) ∙ ap (λ n. replicate n 0) c.told-marks in
    (rw z, λ words p. rw z (zeros 32 p ∙ mark_start (copy_heads a.t.now) a.n words p))

pub returns : goal.returns
returns c = let v = c.loop-i in
    let a = c.args in
    (λ words p. v.invariant.1 words p ∙ mark_end (copy_heads a.t.now) a.n v.i words p c.loop-i-test.false, v.invariant.0)
