-- An entry of another page leaves no row.
use mathlib.Core.Path.{ap, ◌∙◌}
use native.Mathlib.Omega.{arith}
use lib.ListN.{length}
use Rattle.std.proofs.Common.{rules}
use Rattle.flushes.specs.Parts.{leaves_under}
use Rattle.flushes.proofs.Sharing.{leaving_start}
use Rattle.flushes.proofs.rows.count_leaving.Goals as goal

pub returns : goal.returns
returns c =
    let a = c.args in
    let s = a.store.now in
    let w = s.written in
    let e = c.count.ensures.passed (leaves_under w.disk w.dated s.snapshots a.rule) (λ r b p. search rules) in
    (e ∙ ap length (leaving_start w.disk w.dated s.snapshots a.rule c.requires.numbered), omega (arith, c.count.ensures.fewer, c.requires.numbered.fewer))
