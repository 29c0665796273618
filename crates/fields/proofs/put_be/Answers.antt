-- `fields::put_be` meets its contract: the low bytes are in place, and the rest of the number is still to be written before them.
use native.Mathlib.Omega.{arith}
use mathlib.Core.Path.{◌∙◌}
use lib.ListN.{length-set}
use Rattle.fields.proofs.Laws.{put_turn}
use Rattle.fields.proofs.put_be.Goals as goal

pub loop-k-preserved : goal.loop-k-preserved
loop-k-preserved c =
    let v = c.loop-k in
    (simp length-set v.invariant.0, put_turn c.args.at v.k v.y v.j (omega arith) (omega arith) ∙ v.invariant.1)
