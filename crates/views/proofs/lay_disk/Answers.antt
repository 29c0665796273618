-- The sixteen words from the page's first are its words by their slots.
use Prim.Native.Nat.{◌*◌}
use mathlib.Core.Path.{◌∙◌}
use native.Mathlib.Omega.{arith}
use Rattle.views.proofs.Pages.{page_cut}
use Rattle.views.proofs.lay_disk.Goals as goal

pub returns-in-Value : goal.returns-in-Value
returns-in-Value c = rw c.in-Value.is (c.sixteen.ensures ∙ page_cut c.args.w.now.disk (16 * c.args.page) (omega arith))

pub returns-in-Age : goal.returns-in-Age
returns-in-Age c = rw c.in-Age.is (c.sixteen-in-Age.ensures ∙ page_cut c.args.w.now.dated (16 * c.args.page) (omega arith))
