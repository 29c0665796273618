-- The entries of a held store can be indexed, and a flush that stands in the journal is of a page of the store.
use mathlib.Core.Path.{subst}
use Rattle.restart.specs.Turns.{Stands}
use Rattle.restart.proofs.Standing.{flush_stands}
use Rattle.restart.proofs.Holding.{sound}
use Rattle.restart.proofs.replay.replay.Goals as goal

pub index_entries-requires-clause-all : goal.index_entries-requires-clause-all
index_entries-requires-clause-all c = let u = sound c.args.store.now c.requires.held in
    (u.objects, u.single)

pub carry-requires-clause-page_bound : goal.carry-requires-clause-page_bound
carry-requires-clause-page_bound c =
    let a = c.args in
    (flush_stands a.journal.now a.at (subst (Stands a.journal.now a.at) c.in-Flush.is c.requires.stands)).1
