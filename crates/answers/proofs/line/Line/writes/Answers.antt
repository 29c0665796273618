-- One more write stands behind those before it.
use Rattle.std.proofs.Common.{arith}
use Rattle.answers.proofs.Lines.{then_all, writes_next}
use Rattle.answers.proofs.line.Line.writes.Goals as goal

pub loop-i-preserved : goal.loop-i-preserved
loop-i-preserved c =
    let v = c.loop-i in
    (then_all c.args.self.now _ _ v.invariant.0 c.write.ensures.text (writes_next c.args.objects.now c.args.values.now v.i c.requires.0 c.loop-i-test.true), omega arith)
