-- Behind the copies that there are stands for each listed snapshot its head, with the page as of it.
use native.Mathlib.Omega.{arith}
use lib.ListN.{length}
use Rattle.std.proofs.Common.{rules}
use Rattle.tables.specs.Rows.{copy_heads}
use Rattle.tables.proofs.Rows.{copies_length}
use Rattle.views.specs.declared.Word.TheVariants.{Value}
use Rattle.shares.specs.Many.{page_at}
use Rattle.flushes.proofs.Copying.{copies_behind}
use Rattle.flushes.proofs.archive.archive.Goals as goal

pub returns : goal.returns
returns c = let a = c.args in
    let due = a.due.now in
    let m = copies_length a.copies.now 128 (search rules) in
    copies_behind a.page (page_at a.w.now a.h a.page Value) due (length due) a.h.copies (copy_heads a.copies.now) (copy_heads c.put_heads.new.copies) a.copied.now _ (omega arith) (omega arith) c.put_heads.ensures c.look_at_all.ensures
