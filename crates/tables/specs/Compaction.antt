-- What it is to keep chosen rows of a list, in order, at its front.
--     chosen bs xs             the rows of xs whose choice is true, in order
--     Compacted bs n xs zs k   zs is xs with the chosen ones of its first n rows at its front, k of them; the rows from n on are as they were
use Rattle.std.specs.Prelude.{ℕ, ◌≤◌, ◌≡◌, Bool, List, [], ◌∷◌, length, take, drop}
use Rattle.model.specs.declared.Past.{Past}
use Rattle.model.specs.Lists.{pick}

abbrev pub chosen : List Bool → List Past → List Past
chosen [] xs = []
chosen (b ∷ bs) [] = []
chosen (b ∷ bs) (x ∷ xs) = pick b (x ∷ chosen bs xs) (chosen bs xs)

abbrev pub Compacted : List Bool → ℕ → List Past → List Past → ℕ → Type 0
Compacted bs n xs zs k = (k ≤ n) × (length zs ≡ length xs) × (take k zs ≡ chosen (take n bs) (take n xs)) × (drop n zs ≡ drop n xs)
