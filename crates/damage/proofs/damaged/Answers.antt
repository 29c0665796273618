-- Past the tests of the ranges, damage is two entries of one object, and the index is of no further use here.
use Rattle.rules.proofs.Marks.{blank_at}
use Rattle.damage.proofs.damaged.Goals as goal

pub met_again-requires : goal.met_again-requires
met_again-requires c =
    let s = c.out_of_range.ensures in
    ((s.counted c.if-out_of_range.false).pending_count, s.low c.if-out_of_range.false, blank_at 128 512)
