-- The last snapshot before the row's end decides.
use mathlib.Core.Path.{◌∙◌, sym, ap}
use lib.ListN.{take}
use Rattle.tables.specs.Lookups.{wants_b}
use Rattle.tables.proofs.Known.{wanted_last}
use Rattle.tables.proofs.lookups.wanted.Goals as goal

pub returns : goal.returns
returns c = let a = c.args in
    c.wants.ensures ∙ ap (λ s. wants_b s a.marked a.q) c.last_before.ensures ∙ sym (wanted_last (take a.n a.snapshots.now) a.marked a.q)
