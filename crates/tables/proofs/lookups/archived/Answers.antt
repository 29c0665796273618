-- From the last row to the first, the page's mark by the copies passed is before the stamp.
use native.Mathlib.Omega.{arith}
use borrow.Author.Rules.{rules}
use Rattle.tables.specs.Rows.{copy_heads}
use Rattle.tables.proofs.Backward.{Turn}
use Rattle.tables.proofs.Copies.{rows_turn}
use Rattle.tables.proofs.Marks.{mark_reaches, short_early, short_other}
use Rattle.tables.proofs.lookups.archived.Goals as goal
use Rattle.tables.proofs.lookups.archived.Goals.{In-loop-i}

-- a turn's bounds
turn : (c : In-loop-i) → Turn (copy_heads c.args.t.now) c.args.n c.loop-i.i
turn c = rows_turn _ (search rules) (omega arith) (omega arith)

pub returns-then-stamp-c : goal.returns-then-stamp-c
returns-then-stamp-c c = let a = c.args in
    mark_reaches (turn (goal.at.returns-then-stamp-c c).In-loop-i) c.copy_at-c.ensures a.page a.stamp c.if-c-page.true c.if-stamp-c.true

pub loop-i-preserved-else-stamp-c : goal.loop-i-preserved-else-stamp-c
loop-i-preserved-else-stamp-c c = let a = c.args in
    short_early (turn (goal.at.loop-i-preserved-else-stamp-c c).In-loop-i) c.copy_at-c.ensures a.page a.stamp c.loop-i.invariant c.if-stamp-c.false

pub loop-i-preserved : goal.loop-i-preserved
loop-i-preserved c = let a = c.args in
    short_other (turn (goal.at.loop-i-preserved c).In-loop-i) c.copy_at-c.ensures a.page a.stamp c.loop-i.invariant c.if-c-page.false
