-- The ages as of the next snapshots tell the due ones, from the first beyond the mark on.
use Prim.Native.Nat.{◌+◌, ◌-◌}
use native.Mathlib.Omega.{arith}
use lib.ListN.{take, drop, length-take}
use Rattle.shares.proofs.Orders.{part_ordered}
use Rattle.flushes.specs.Parts.{seen_in}
use Rattle.flushes.proofs.Listing.{pages_tell, listed_high}
use Rattle.flushes.proofs.Holdings.{looks}
use Rattle.flushes.proofs.dues.list_within.Goals as goal

pub look_at_all-requires : goal.look_at_all-requires
look_at_all-requires c = let a = c.args in
    let s = a.store.now in
    let l = s.snapshots in
    let k = c.requires.ready in
    let n = a.high + 1 - (a.low + 1) in
    record {
      lookable = looks s a.page k;
      shared = c.requires.shared;
      ordered = (part_ordered s.heads.snapshots l k.rising (omega arith) (a.low + 1) n (omega arith), omega (arith, length-take n (drop (a.low + 1) l)));
    }

pub returns-clause-by_index : goal.returns-clause-by_index
returns-clause-by_index c = let a = c.args in
    let s = a.store.now in
    let l = s.snapshots in
    let n = s.heads.snapshots in
    λ m f.
    listed_high (seen_in s.written s.heads) a.page m (take n l) a.low a.high c.requires.low_lt_high.0 c.find_dues.new.due.items
    (c.find_dues.ensures.listed_to (seen_in s.written s.heads) a.page m n (omega arith) (omega arith)
    (pages_tell s.written s.heads a.page m l n a.low a.high c.requires.high_bound.0 (omega arith) f c.look_at_all.ensures))
