-- Of the rows passed, those that stay are in front; the rows not passed yet are as they were.
use Prim.Native.Nat.{ℕ, ◌≤◌}
use mathlib.Core.Bool.{Bool}
use mathlib.Core.Path.{◌≡◌}
use mathlib.Core.List.{List}
use lib.ListN.{length, take}
use Rattle.std.specs.Prelude.{Option}
use Rattle.model.specs.declared.Past.{Past}
use Rattle.tables.specs.Rows.{pasts}
use Rattle.tables.specs.Lookups.{stays_by}
use Rattle.tables.proofs.Blocks.{Passed}
use Rattle.tables.proofs.dropping.drop_dead.Given as goal

abbrev pub test : Option ℕ → ℕ → ℕ → List ℕ → List ℕ → Past → Bool
test scope horizon known snapshots marks = stays_by scope horizon (take known snapshots) marks

abbrev pub invariant-loop-from : goal.invariant-loop-from
invariant-loop-from l = (l.from ≤ l.n) × (length l.t ≡ 256) × Passed (test l.scope l.horizon l.known l.snapshots l.marks) (pasts l.initial.t) (pasts l.t) l.at l.from
