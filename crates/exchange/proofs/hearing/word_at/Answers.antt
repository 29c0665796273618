-- Each half is below 2 ^ 32, and the two are the whole.
use Prim.Native.Nat.{◌+◌, ◌<◌}
use native.Mathlib.Omega.{arith}
use Rattle.exchange.proofs.Words.{half_fits, word}
use Rattle.exchange.proofs.hearing.word_at.Goals as goal
use Rattle.exchange.proofs.hearing.word_at.Goals.{After-get_be-low}

high_fits : (c : After-get_be-low) → c.get_be-high.result < 4294967296
high_fits c = half_fits c.args.bytes.now c.args.at (λ i. omega (arith, c.type_inv.bytes i)) c.get_be-high.ensures

low_fits : (c : After-get_be-low) → c.get_be-low.result < 4294967296
low_fits c = half_fits c.args.bytes.now (c.args.at + 4) (λ i. omega (arith, c.type_inv.bytes i)) c.get_be-low.ensures

pub overflow_mul-result : goal.overflow_mul-result
overflow_mul-result c = omega (arith, high_fits c)

pub overflow_add-result : goal.overflow_add-result
overflow_add-result c = omega (arith, high_fits c, low_fits c)

pub returns : goal.returns
returns c = word c.args.bytes.now c.args.at c.requires c.get_be-high.ensures c.get_be-low.ensures
