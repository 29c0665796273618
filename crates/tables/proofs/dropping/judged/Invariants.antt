-- The rows judged so far are judged by the test, and the last search is kept with the end that it was made for.
use Prim.Native.Nat.{ℕ}
use mathlib.Core.Bool.{Bool}
use mathlib.Core.Path.{◌≡◌}
use mathlib.Core.List.{List, map}
use lib.ListN.{length, take, drop}
use Rattle.std.specs.Prelude.{Option}
use Rattle.model.specs.declared.Past.{Past}
use Rattle.tables.specs.Rows.{pasts}
use Rattle.tables.specs.Lookups.{last_before, stays_by}
use Rattle.tables.proofs.dropping.judged.Given as goal

abbrev pub test : Option ℕ → ℕ → ℕ → List ℕ → List ℕ → Past → Bool
test scope horizon known snapshots marks = stays_by scope horizon (take known snapshots) marks

abbrev pub invariant-loop-i : goal.invariant-loop-i
invariant-loop-i l = (length l.stay ≡ 16) × (take l.i l.stay ≡ take l.i (map (test l.scope l.horizon l.known l.snapshots l.marks) (drop l.from (pasts l.t)))) × (l.s ≡ last_before (take l.known l.snapshots) l.until)
