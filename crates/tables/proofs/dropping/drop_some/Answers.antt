-- Where nothing has gone yet and all stay, the table is left as it is; else the rows are copied out, compacted and copied back.
use mathlib.Core.Path.{◌≡◌}
use native.Mathlib.Omega.{arith}
use lib.ListN.{length, take}
use borrow.Author.Rules.{rules}
use lib.Seq.{length-take-le, take-append-le}
use Rattle.tables.specs.Rows.{pasts}
use Rattle.tables.proofs.Rows.{pasts_length}
use Rattle.tables.proofs.Blocks.{each_all, stood, moved}
use Rattle.tables.proofs.dropping.drop_some.Goals as goal

pub returns-then-all_stay : goal.returns-then-all_stay
returns-then-all_stay c = let a = c.args in
    stood a.at a.from a.stay.now (pasts a.t.now) c.if-at-from.true (omega (arith, pasts_length a.t.now 256 (omega arith))) (each_all a.stay.now (c.all_stay.ensures.0 (search rules)))

pub returns : goal.returns
returns c = let a = c.args in
    let u = c.unpacked-rows in
    let k = c.compact-kept in
    let l : length u.result ≡ 16 = search rules in
    moved a.at a.from a.stay.now (pasts a.t.now) (take (length a.stay.now) u.result) k.new.rows _ (pasts c.pack.new.t) k.result c.requires.0
    (length-take-le _ u.result (omega (arith, l))) u.ensures k.ensures (take-append-le k.result k.new.rows _ (omega (arith, l, k.ensures.0, k.ensures.1, length-take-le (length a.stay.now) u.result (omega (arith, l))))) c.pack.ensures
