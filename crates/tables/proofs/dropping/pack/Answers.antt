-- The table is as it was, with the rows written so far in it.
use Prim.Native.Nat.{◌+◌}
use mathlib.Core.Path.{sym, ap, ◌∙◌}
use mathlib.Core.List.{List}
use native.Mathlib.Numerals.{add-one}
use native.Mathlib.Omega.{arith}
use lib.ListN.{get_or, set}
use lib.Seq.{paste, paste-suc}
use Rattle.model.specs.declared.Past.{Past}
use Rattle.tables.specs.Rows.{pasts}
use Rattle.tables.proofs.Rows.{pasts_length}
use Rattle.tables.proofs.Compacts.{no_past}
use Rattle.tables.proofs.dropping.pack.Goals as goal

pub loop-i-preserved : goal.loop-i-preserved
loop-i-preserved c =
    let v = c.loop-i in
    let a = c.args in
    let ps = pasts a.t.now in
    let rows = a.rows.now in
    let l = pasts_length a.t.now 256 (omega arith) in
    c.put_past.ensures ∙ ap (λ (l : List Past). set l (a.at + v.i) (get_or rows v.i no_past)) v.invariant
    ∙ paste-suc ps a.at rows v.i no_past (omega (arith, l)) (omega (arith, l)) ∙ ap (paste ps a.at rows) (sym (add-one v.i))
