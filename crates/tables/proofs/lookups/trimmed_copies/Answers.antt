-- The search over row numbers is one over the rows.
use mathlib.Core.List.{[]}
use lib.Dec.{eqb}
use borrow.Author.Rules.{rules}
use Rattle.tables.specs.declared.CopyHead.{CopyHead}
use Rattle.tables.specs.Rows.{copy_head_of, copy_heads}
use Rattle.tables.proofs.Trims.{trimmed_is}
use Rattle.tables.proofs.lookups.trimmed_copies.Goals as goal

pub returns : goal.returns
returns c =
    let r = c.up_to_last.ensures in (
      trimmed_is (λ (x : CopyHead). eqb x.page c.args.page) (copy_head_of []) (copy_heads c.args.t.now) c.args.n c.up_to_last.result r.inside
          (λ h. let z = r.last h in search rules) (λ i a b. let z = r.others i a b in search rules),
      r.inside,
    )
