-- One more byte's digits stand behind those before them.
use Rattle.std.proofs.Common.{ap, length, length-append, arith}
use Rattle.answers.proofs.Lines.{then_all, hex_next}
use Rattle.answers.proofs.line.Line.pairs.Goals as goal

pub loop-b-preserved : goal.loop-b-preserved
loop-b-preserved c =
    let v = c.loop-b in
    let e = ap length c.pair.ensures in
    let f = simp length-append at e in
    (then_all c.args.self.now _ _ v.invariant.0 c.pair.ensures (hex_next c.args.bytes.now v.b-index c.loop-b-test.true), omega arith)
