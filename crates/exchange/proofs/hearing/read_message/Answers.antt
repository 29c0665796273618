-- A frame has room for the numbers and the stamps that are read of it.
use Prim.Native.Nat.{◌≤◌}
use mathlib.Core.Path.{sym}
use lib.ListN.{length, get_or}
use lib.Seq.{length-take-le}
use native.Mathlib.Omega.{arith}
use Rattle.exchange.proofs.Messages.{frame, told_all}
use Rattle.exchange.proofs.hearing.read_message.Goals as goal

pub bounds-bytes-19 : goal.bounds-bytes-19
bounds-bytes-19 c = omega (arith, (frame c.args.bytes.now c.requires.0).long)

pub slice_bounds-read_stamps-end : goal.slice_bounds-read_stamps-end
slice_bounds-read_stamps-end c = omega (arith, (frame c.args.bytes.now c.requires.0).few, c.requires.1)

pub slice_bounds-read_stamps-end-2 : goal.slice_bounds-read_stamps-end-2
slice_bounds-read_stamps-end-2 c =
    let few : get_or c.args.bytes.now 19 0 ≤ length c.args.stamps.now = omega (arith, (frame c.args.bytes.now c.requires.0).few, c.requires.1) in
    sym (length-take-le _ c.args.stamps.now few)

pub read_stamps-requires : goal.read_stamps-requires
read_stamps-requires c =
    let f = frame c.args.bytes.now c.requires.0 in
    let few : get_or c.args.bytes.now 19 0 ≤ length c.args.stamps.now = omega (arith, f.few, c.requires.1) in
    omega (arith, f.ends, length-take-le _ c.args.stamps.now few)

pub word_at-prev-requires : goal.word_at-prev-requires
word_at-prev-requires c = omega (arith, (frame c.args.bytes.now c.requires.0).long)

pub word_at-curr-requires : goal.word_at-curr-requires
word_at-curr-requires c = omega (arith, (frame c.args.bytes.now c.requires.0).long)

pub returns : goal.returns
returns c =
    told_all c.args.bytes.now c.args.stamps.now c.requires.1 c.requires.0 c.word_at-prev.ensures c.word_at-curr.ensures c.read_stamps.ensures
