-- The word is put for the stamps from the first at or behind the row's own on, as long as the row lasts.
use Rattle.std.proofs.Common.{Some}
use Rattle.model.specs.Store.{slot_of}
use Rattle.views.specs.Views.{part_of}
use Rattle.shares.proofs.Stamps.{Laid}
use Rattle.shares.proofs.many.lay_shown.Given as goal

abbrev pub invariant-loop-j : goal.invariant-loop-j
invariant-loop-j g l = Laid l.stamps l.at (slot_of (g.R.Row.object_of l.r)) (part_of l.fn.word (g.R.Row.seen_of l.r)) (λ s. g.R.Row.shown_b (Some s) l.r) l.initial.words l.j l.words
