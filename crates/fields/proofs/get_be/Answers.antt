-- `fields::get_be` meets its contract: so many bytes have room in a u64.
use native.Mathlib.Omega.{arith}
use Rattle.fields.proofs.Laws.{room}
use Rattle.fields.proofs.get_be.Goals as goal

pub overflow_mul-a : goal.overflow_mul-a
overflow_mul-a c =
    let v = c.loop-byte in
    omega (arith, (room v.byte-index c.args.width v.a 0 (omega arith) (omega arith) v.invariant.0 (omega arith)).1)

pub overflow_add-a : goal.overflow_add-a
overflow_add-a c =
    let v = c.loop-byte in
    omega (arith, (room v.byte-index c.args.width v.a c.from.result (omega arith) (omega arith) v.invariant.0 (omega arith)).1)
