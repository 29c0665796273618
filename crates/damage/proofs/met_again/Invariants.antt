-- An entry whose object is in the index brings fresh below 128, where it stays; until then every object was new, and the index tells of them all.
use Prim.Native.Nat.{ℕ, ◌<◌}
use mathlib.Core.Path.{◌≡◌}
use mathlib.Core.Bool.{Bool, true}
use mathlib.Core.List.{List}
use mathlib.Core.Logic.{◌⊎◌}
use lib.Dec.{ltb}
use lib.ListN.{drop, take}
use Rattle.model.specs.Lists.{twice_b}
use Rattle.rules.proofs.Marks.{again}
use Rattle.tables.specs.Rows.{pendings}
use Rattle.tables.specs.Lookups.{Indexed}
use Rattle.damage.proofs.Laws.{objects_of}
use Rattle.damage.proofs.met_again.Given as goal

-- a row below 128 marks its object
abbrev pub marks : ℕ → Bool
marks row = ltb row 128

-- every object so far was new: the objects from i on, with the index, give the answer of them all
abbrev pub New : List (List ℕ) → ℕ → List ℕ → ℕ → ℕ → Type 0
New t n index fresh i =
    (fresh ≡ 128) × (again 128 marks index (drop i (objects_of n (pendings t))) ≡ twice_b (objects_of n (pendings t))) × Indexed index (take i (pendings t))

-- one was met again
abbrev pub Met : List (List ℕ) → ℕ → ℕ → Type 0
Met t n fresh = (fresh < 128) × (twice_b (objects_of n (pendings t)) ≡ true)

abbrev pub invariant-loop-i : goal.invariant-loop-i
invariant-loop-i l = New l.t l.n l.index l.fresh l.i ⊎ Met l.t l.n l.fresh
