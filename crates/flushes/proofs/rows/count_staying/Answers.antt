-- Beside those counted stand the rows of other pages.
use native.Mathlib.Omega.{arith}
use Rattle.std.proofs.Common.{rules}
use Rattle.tables.proofs.Rows.{pasts_length}
use Rattle.flushes.specs.Parts.{stays_under}
use Rattle.flushes.proofs.Sharing.{staying_start}
use Rattle.flushes.proofs.rows.count_staying.Goals as goal

pub returns : goal.returns
returns c =
    let a = c.args in
    let m = pasts_length a.past.now 256 (search rules) in
    let e = c.count.ensures.passed (stays_under a.snapshots.now a.rule) (λ q b p. search rules) in
    let s = staying_start a.snapshots.now a.rule c.requires.numbered (omega arith) in
    (omega arith, omega (arith, c.count.ensures.fewer, c.requires.numbered.fewer))
