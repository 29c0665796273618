-- From the last of the numbered rows to the first, `out` is those passed laid over what it was.
use mathlib.Core.Path.{◌≡◌}
use lib.ListN.{length, drop}
use Rattle.model.specs.Store.{slot_of}
use Rattle.views.specs.Views.{part_of, lay}
use Rattle.shares.specs.Shares.{rows_at}
use Rattle.shares.proofs.look.lay_numbered.Given as goal

abbrev pub invariant-loop-j : goal.invariant-loop-j
invariant-loop-j g l = (length l.out ≡ 16)
    × (l.out ≡ lay (g.R.Row.shown_b l.v.as_of) (λ r. slot_of (g.R.Row.object_of r)) (λ r. part_of l.v.word (g.R.Row.seen_of r)) (rows_at g.R.Row.blank (g.R.Row.rows l.t) (drop l.j l.numbers)) l.initial.out)
