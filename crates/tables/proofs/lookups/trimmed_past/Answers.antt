-- The search over row numbers is one over the rows.
use mathlib.Core.List.{[]}
use lib.Dec.{eqb}
use borrow.Author.Rules.{rules}
use Rattle.model.specs.declared.Past.{Past}
use Rattle.model.specs.Store.{page_of}
use Rattle.tables.specs.Rows.{past_of, pasts}
use Rattle.tables.proofs.Trims.{trimmed_is}
use Rattle.tables.proofs.lookups.trimmed_past.Goals as goal

pub returns : goal.returns
returns c =
    let r = c.up_to_last.ensures in (
      trimmed_is (λ (x : Past). eqb (page_of x.object) c.args.page) (past_of []) (pasts c.args.t.now) c.args.n c.up_to_last.result r.inside
          (λ h. let z = r.last h in search rules) (λ i a b. let z = r.others i a b in search rules),
      r.inside,
    )
