-- One more number stands behind those before it.
use Rattle.std.proofs.Common.{arith}
use Rattle.answers.proofs.Lines.{then_all, spaced_next}
use Rattle.answers.proofs.line.Line.words.Goals as goal

pub loop-n-preserved : goal.loop-n-preserved
loop-n-preserved c =
    let v = c.loop-n in
    (then_all c.args.self.now _ _ v.invariant.0 c.spaced.ensures.text (spaced_next c.args.numbers.now v.n-index c.loop-n-test.true), omega arith)
