-- What a commit adds, counted.
use Rattle.std.specs.Prelude.{ℕ, ◌+◌, Bool, true, false, List, [], ◌∷◌}
use Rattle.model.specs.declared.Pending.{Pending}
use Rattle.model.specs.declared.Past.{Past}
use Rattle.model.specs.Store.{Store, Slot, none, some, lookup, live_b}
use Rattle.model.specs.Changes.{closed}

-- how many are true
abbrev pub one_if : Bool → ℕ
one_if true = 1
one_if false = 0

abbrev pub trues : List Bool → ℕ
trues [] = 0
trues (b ∷ bs) = one_if b + trues bs

-- the object has no entry: its write adds one
abbrev pub new_b : Slot → Bool
new_b none = true
new_b (some e) = false

abbrev pub new_in : List Pending → ℕ → Bool
new_in es o = new_b (lookup o es)

-- live by a store's horizon, snapshots and copies
abbrev pub live_in : Store → Past → Bool
live_in st = live_b st.horizon st.snapshots st.copies

-- the object's entry is displaced by a live past value
abbrev pub displaces_b : (Past → Bool) → ℕ → ℕ → Slot → Bool
displaces_b live t o none = false
displaces_b live t o (some e) = live (closed e o t)

abbrev pub displaces_in : (Past → Bool) → ℕ → List Pending → ℕ → Bool
displaces_in live t es o = displaces_b live t o (lookup o es)
