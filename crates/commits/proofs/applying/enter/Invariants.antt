-- The entries written with those to come are all.
use mathlib.Core.Path.{◌≡◌}
use lib.ListN.{length}
use Rattle.tables.specs.Rows.{pendings}
use Rattle.commits.proofs.AllNew.{Adding}
use Rattle.commits.proofs.applying.enter.Given as goal

abbrev pub invariant-loop-k : goal.invariant-loop-k
invariant-loop-k l = record { rows : length (pendings l.pending) ≡ 128; all : Adding l.t l.objects l.values (pendings l.pending) l.k }
