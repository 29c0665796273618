-- The word is put for the stamps from the first at or behind the row's own on, as long as the row lasts.
use Prim.Native.Nat.{◌+◌, ◌%◌}
use mathlib.Core.Path.{ap, sym, ◌∙◌}
use native.Mathlib.Omega.{arith}
use lib.ListN.{get_or}
use Rattle.std.proofs.Common.{Some}
use Rattle.views.specs.Views.{part_of}
use Rattle.shares.proofs.Stamps.{shown_before, laid_more}
use Rattle.shares.proofs.many.lay_shown.Goals as goal

pub loop-j-preserved : goal.loop-j-preserved
loop-j-preserved g c =
    let a = c.args in
    let v = c.loop-j in
    let t = g.R.Row in
    let own = ap (λ s. s.stamp) c.seen-seen.ensures in
    let behind = c.first_from-first.ensures.behind v.j (omega arith) (omega arith) in
    laid_more v.invariant (ap (λ o. a.at + o % 16) c.object.ensures) (c.of-shown.ensures ∙ ap (part_of a.word) c.seen-seen.ensures) (omega arith)
    (shown_before (λ s. t.shown_b (Some s) a.r) (t.seen_of a.r).stamp (g.met.R.Row.over a.r) (get_or a.stamps.now v.j 0) (sym c.lasts.ensures ∙ c.if-not-lasts.false) (omega (arith, own, behind)) (omega arith))
