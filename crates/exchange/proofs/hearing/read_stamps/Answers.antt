-- What is filled, with what is left to read, is the whole column.
use mathlib.Core.Path.{◌≡◌, ◌∙◌}
use native.Mathlib.Omega.{arith}
use lib.ListN.{length}
use Rattle.fields.proofs.Laws.{column_turn}
use Rattle.exchange.proofs.hearing.read_stamps.Goals as goal

pub loop-i-preserved : goal.loop-i-preserved
loop-i-preserved c =
    let v = c.loop-i in
    let l : length v.out ≡ length c.args.out.now = omega arith in
    rw c.word_at.ensures (column_turn 8 8 (length c.args.out.now) v.i 20 c.args.bytes.now v.out (omega arith) l ∙ v.invariant)
