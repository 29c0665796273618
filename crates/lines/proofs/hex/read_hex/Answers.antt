-- `hex::read_hex` meets its contract: the bytes so far, with those of the digits that are left, are all of them.
use Rattle.lines.proofs.Hexes.{pair_start, pair_turn, pair_none, decoded}
use Prim.Native.Nat.{◌<◌, ◌+◌, ◌*◌}
use native.Mathlib.Omega.{arith}
use mathlib.Core.Path.{◌≡◌}
use lib.ListN.{length, length-set}
use borrow.Author.Rules.{rules}
use Rattle.lines.proofs.hex.read_hex.Goals as goal

pub loop-i-init : goal.loop-i-init
loop-i-init c = (search rules, pair_start c.args.word.now c.args.out.now)

pub loop-i-preserved : goal.loop-i-preserved
loop-i-preserved c =
    let v = c.loop-i in
    let i : v.i < 512 = omega arith in
    let g : 2 * v.i + 1 < length c.args.word.now = omega arith in
    (simp length-set v.invariant.0, rw c.byte.ensures (pair_turn c.args.word.now v.out v.i i v.invariant.0 g v.invariant.1))

pub returns : goal.returns
returns c =
    let v = c.loop-i in
    let word = c.args.word.now in
    let e : c.min-count.result ≡ v.i = omega arith in
    rw e (decoded word v.out v.i (omega arith) v.invariant.0 v.invariant.1 (pair_none word v.i (omega arith)))
