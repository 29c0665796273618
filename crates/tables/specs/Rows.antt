-- The lent tables as lists of the model's rows: the only lines that know the layout.
use Rattle.std.specs.Prelude.{ℕ, zero, suc, List, [], ◌∷◌, map, take, drop, get_or}
use Rattle.model.specs.declared.Pending.{Pending}
use Rattle.model.specs.declared.Past.{Past}
use Rattle.model.specs.Store.{Copy}
use Rattle.tables.specs.declared.CopyHead.{CopyHead}

-- ---- a row of words
abbrev pub pending_of : List ℕ → Pending
pending_of w = record { object = get_or w 0 0; first = get_or w 1 0; latest = get_or w 2 0; value = get_or w 3 0 }

abbrev pub past_of : List ℕ → Past
past_of w = record { object = get_or w 0 0; from = get_or w 1 0; until = get_or w 2 0; value = get_or w 3 0 }

abbrev pub copy_head_of : List ℕ → CopyHead
copy_head_of w = record { page = get_or w 0 0; stamp = get_or w 1 0 }

-- ---- all rows of a table
unfoldable pub pendings : List (List ℕ) → List Pending
pendings rows = map pending_of rows

unfoldable pub pasts : List (List ℕ) → List Past
pasts rows = map past_of rows

unfoldable pub copy_heads : List (List ℕ) → List CopyHead
copy_heads rows = map copy_head_of rows

-- each copy's head with its sixteen words
abbrev pub copies_of : List CopyHead → List ℕ → List Copy
copies_of [] words = []
copies_of (h ∷ hs) words = record { page = h.page; stamp = h.stamp; values = take 16 words } ∷ copies_of hs (drop 16 words)

-- ---- a row by its index
abbrev pub pending_at : List Pending → ℕ → Pending
pending_at ps i = get_or ps i (pending_of [])

abbrev pub past_at : List Past → ℕ → Past
past_at qs i = get_or qs i (past_of [])

abbrev pub copy_head_at : List CopyHead → ℕ → CopyHead
copy_head_at hs i = get_or hs i (copy_head_of [])

-- an entry with another latest stamp and value
abbrev pub touched : Pending → ℕ → ℕ → Pending
touched e t v = record { object = e.object; first = e.first; latest = t; value = v }

-- ---- the first n rows. A count beyond the table shows rows d that aren't there, so that a count always is the length of its contents
abbrev pub up_to : {A : Type 0} → A → ℕ → List A → List A
up_to d zero rows = []
up_to d (suc n) [] = d ∷ up_to d n []
up_to d (suc n) (r ∷ rs) = r ∷ up_to d n rs
