-- The counts are within the tables, whose lengths their types tell.
use native.Mathlib.Omega.{arith}
use borrow.Author.Rules.{rules}
use Rattle.tables.proofs.Rows.{pasts_length, pendings_length}
use Rattle.shares.proofs.find_share.Goals as goal

pub number-requires : goal.number-requires
number-requires c =
    let r = pasts_length c.args.w.now.past 256 (search rules) in
    (omega arith, (omega arith, omega arith, omega arith, omega arith))

pub number-requires-2 : goal.number-requires-2
number-requires-2 c =
    let r = pendings_length c.args.w.now.pending 128 (search rules) in
    (omega arith, (omega arith, omega arith, omega arith, omega arith))
