-- The heads so far, with those of the snapshots ahead, are all of them.
use mathlib.Core.Path.{ap, ◌∙◌}
use native.Mathlib.Omega.{arith}
use lib.ListN.{length, length-set}
use Rattle.std.proofs.Common.{rules}
use Rattle.tables.specs.Rows.{copy_heads}
use Rattle.tables.proofs.Rows.{copies_length}
use Rattle.flushes.specs.Parts.{head_of}
use Rattle.flushes.proofs.Copying.{put_start, put_more}
use Rattle.flushes.proofs.archive.put_heads.Goals as goal

pub loop-i-init : goal.loop-i-init
loop-i-init c = let a = c.args in
    (copies_length _ _ (search rules), put_start (head_of a.page) a.due.now (copy_heads a.copies.now) a.at)

pub loop-i-preserved : goal.loop-i-preserved
loop-i-preserved c = let a = c.args in
    let v = c.loop-i in (
      ap length c.put_copy.ensures ∙ simp length-set v.invariant.0,
      put_more (head_of a.page) a.due.now (copy_heads v.copies) a.at v.i v.invariant.1 (omega arith) (omega arith) c.put_copy.ensures,
    )
