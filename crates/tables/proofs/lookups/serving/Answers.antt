-- From the last row to the first, the code holds the oldest serving copy of the rows passed, or that there is none.
use native.Mathlib.Omega.{arith}
use borrow.Author.Rules.{rules}
use Rattle.tables.specs.Rows.{copy_heads}
use Rattle.tables.proofs.Backward.{Turn}
use Rattle.tables.proofs.Copies.{rows_turn}
use Rattle.tables.proofs.Oldest.{held_other, held_early, held_taken, held_kept}
use Rattle.tables.proofs.lookups.serving.Goals as goal
use Rattle.tables.proofs.lookups.serving.Goals.{In-loop-i}

-- a turn's bounds
turn : (c : In-loop-i) → Turn (copy_heads c.args.t.now) c.args.n c.loop-i.i
turn c = rows_turn _ (search rules) (omega arith) (omega arith)

pub loop-i-preserved-then-c-best : goal.loop-i-preserved-then-c-best
loop-i-preserved-then-c-best c =
    held_taken (turn (goal.at.loop-i-preserved-then-c-best c).In-loop-i) c.copy_at-c.ensures c.loop-i.invariant c.if-c-page.true c.if-s-c.true c.if-c-best.true

pub loop-i-preserved-else-c-best : goal.loop-i-preserved-else-c-best
loop-i-preserved-else-c-best c =
    held_kept (turn (goal.at.loop-i-preserved-else-c-best c).In-loop-i) c.copy_at-c.ensures c.loop-i.invariant c.if-c-page.true c.if-s-c.true c.if-c-best.false (omega arith)

pub loop-i-preserved-else-s-c : goal.loop-i-preserved-else-s-c
loop-i-preserved-else-s-c c =
    held_early (turn (goal.at.loop-i-preserved-else-s-c c).In-loop-i) c.copy_at-c.ensures c.loop-i.invariant c.if-c-page.true c.if-s-c.false

pub loop-i-preserved : goal.loop-i-preserved
loop-i-preserved c =
    held_other (turn (goal.at.loop-i-preserved c).In-loop-i) c.copy_at-c.ensures c.loop-i.invariant c.if-c-page.false
