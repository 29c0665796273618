-- The rows copied so far are those of the table, from the first asked for on.
use mathlib.Core.Path.{◌∙◌, sym}
use native.Mathlib.Omega.{arith}
use lib.ListN.{drop, length-set, length-drop}
use lib.Seq.{get_or-drop}
use Rattle.tables.specs.Rows.{pasts}
use Rattle.tables.proofs.Rows.{pasts_length}
use Rattle.tables.proofs.Compacts.{no_past, copied}
use Rattle.tables.proofs.dropping.unpacked.Goals as goal

pub loop-i-preserved : goal.loop-i-preserved
loop-i-preserved c =
    let v = c.loop-i in
    let a = c.args in
    let ps = pasts a.t.now in (
      simp length-set v.invariant.0,
      copied v.rows (drop a.from ps) v.i no_past c.past_at.result
          (omega (arith, v.invariant.0)) (omega (arith, length-drop a.from ps, pasts_length a.t.now 256 (omega arith))) v.invariant.1
          (c.past_at.ensures ∙ sym (get_or-drop a.from ps v.i no_past)),
    )
