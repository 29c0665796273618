-- From the last of the numbered rows to the first, each page is those passed laid over what it was.
use Prim.Native.Nat.{ℕ}
use mathlib.Core.Path.{◌≡◌}
use mathlib.Core.List.{List}
use lib.ListN.{length, drop}
use Rattle.std.proofs.Common.{Some}
use Rattle.model.specs.Store.{slot_of}
use Rattle.views.specs.Views.{part_of, lay}
use Rattle.shares.specs.Shares.{rows_at}
use Rattle.shares.specs.Many.{Pages}
use Rattle.shares.proofs.many.lay_numbered.Given as goal

abbrev pub invariant-loop-j : goal.invariant-loop-j
invariant-loop-j g l = (length l.words ≡ length l.initial.words)
    × ((f : ℕ → List ℕ) (w : List ℕ) → Pages f l.stamps l.at w l.initial.words
    → Pages (λ s. lay (g.R.Row.shown_b (Some s)) (λ r. slot_of (g.R.Row.object_of r)) (λ r. part_of l.word (g.R.Row.seen_of r)) (rows_at g.R.Row.blank (g.R.Row.rows l.t) (drop l.j l.numbers)) (f s)) l.stamps l.at w l.words)
