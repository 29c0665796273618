-- Where all rows stay they are as they were; else only the page's mark is looked at, since rows of other pages stay.
use native.Mathlib.Omega.{arith}
use lib.ListN.{take, replicate}
use Rattle.std.proofs.Common.{rules}
use Rattle.tables.specs.Rows.{pasts}
use Rattle.tables.proofs.Rows.{pasts_length}
use Rattle.flushes.proofs.Sharing.{all_stay}
use Rattle.flushes.proofs.Staying.{drop_held}
use Rattle.flushes.proofs.rows.drop_rows.Goals as goal

pub returns-then-staying-n : goal.returns-then-staying-n
returns-then-staying-n c = let a = c.args in
    let m = pasts_length a.past.now 256 (search rules) in
    all_stay a.snapshots.now a.rule (omega arith) c.requires.staying_value c.if-staying-n.true

pub returns : goal.returns
returns c = let a = c.args in
    let r = a.rule in
    let p = c.requires.n_bound.1.in_range in
    drop_held r.page r.mark r.horizon (take r.known a.snapshots.now) (replicate 32 0) p p (take a.n (pasts a.past.now)) c.drop_dead.ensures.0 c.drop_dead.ensures.1
