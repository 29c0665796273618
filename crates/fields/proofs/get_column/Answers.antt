-- `fields::get_column` meets its contract: what is filled, with what is left to read, is the whole column.
use mathlib.Core.Path.{◌∙◌}
use lib.ListN.{length}
use native.Mathlib.Omega.{arith}
use Rattle.fields.proofs.Laws.{column_turn}
use Rattle.fields.proofs.get_column.Goals as goal

pub loop-i-preserved : goal.loop-i-preserved
loop-i-preserved c =
    let a = c.args in
    let v = c.loop-i in
    rw c.get_be.ensures (column_turn a.width a.stride (length a.out.now) v.i a.at a.s.now v.out (omega arith) (omega arith) ∙ v.invariant)
