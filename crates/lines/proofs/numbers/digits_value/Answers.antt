-- `numbers::digits_value` meets its contract: the number so far, with the digits that are left, is the whole; it never falls.
use Rattle.lines.proofs.Digits.{digit_large}
use native.Mathlib.Omega.{arith}
use Rattle.lines.proofs.numbers.digits_value.Goals as goal

pub returns-then-x-n : goal.returns-then-x-n
returns-then-x-n c =
    let a = c.args in
    let v = c.loop-b in
    let x = c.digit_value-x.ensures in
    rw c.at.ensures (digit_large a.word.now v.n v.b-index v.invariant.1 a.column (omega arith) (omega arith))
