-- The copies that heads and words make: as many as heads, each with its head's page and stamp, and sixteen words of its own.
use Prim.Native.Nat.{ℕ, zero, suc, ◌+◌, ◌*◌, ◌<◌, ◌≤◌}
use mathlib.Core.Path.{◌≡◌, refl, ap, ◌∙◌}
use mathlib.Core.List.{List, [], ◌∷◌}
use native.Mathlib.Omega.{arith}
use lib.ListN.{length, take, drop, get_or}
use lib.Seq.{drop-drop}
use Rattle.model.specs.Store.{Copy}
use Rattle.tables.specs.declared.CopyHead.{CopyHead}
use Rattle.tables.specs.Rows.{copy_heads, copies_of, copy_head_at}
use Rattle.tables.proofs.Rows.{copies_length}
use Rattle.tables.proofs.Backward.{Turn}

-- the copy that isn't there
abbrev pub no_copy : Copy
no_copy = record { page = 0; stamp = 0; values = [] }

abbrev pub copy_of : List CopyHead → List ℕ → ℕ → Copy
copy_of hs words i = get_or (copies_of hs words) i no_copy

pub copies_of_length : (hs : List CopyHead) (words : List ℕ) → length (copies_of hs words) ≡ length hs
copies_of_length [] words = refl
copies_of_length (h ∷ hs) words = ap suc (copies_of_length hs (drop 16 words))

pub copy_page : (hs : List CopyHead) (words : List ℕ) (i : ℕ) → (copy_of hs words i).page ≡ (copy_head_at hs i).page
copy_page [] words i = refl
copy_page (h ∷ hs) words zero = refl
copy_page (h ∷ hs) words (suc i) = copy_page hs (drop 16 words) i

pub copy_stamp : (hs : List CopyHead) (words : List ℕ) (i : ℕ) → (copy_of hs words i).stamp ≡ (copy_head_at hs i).stamp
copy_stamp [] words i = refl
copy_stamp (h ∷ hs) words zero = refl
copy_stamp (h ∷ hs) words (suc i) = copy_stamp hs (drop 16 words) i

pub copy_values : (hs : List CopyHead) (words : List ℕ) (i : ℕ) → i < length hs → (copy_of hs words i).values ≡ take 16 (drop (i * 16) words)
copy_values [] words i l = absurd (omega arith)
copy_values (h ∷ hs) words zero l = refl
copy_values (h ∷ hs) words (suc i) l =
    let e : 16 + i * 16 ≡ suc i * 16 = omega arith in
    copy_values hs (drop 16 words) i (omega arith) ∙ ap (take 16) (drop-drop (i * 16) 16 words ∙ ap (λ k. drop k words) e)

-- a turn over the heads is one over the copies
pub copies_turn : {hs : List CopyHead} {n i : ℕ} → Turn hs n i → (words : List ℕ) → Turn (copies_of hs words) n i
copies_turn {hs} t words = record { left = t.left; inside = t.inside; rows = rw (copies_of_length hs words) t.rows }

-- a turn over the heads of a table's rows
pub rows_turn : (rows : List (List ℕ)) {n i : ℕ} → 0 < i → i ≤ n → n ≤ length rows → Turn (copy_heads rows) n i
rows_turn rows a b c = record { left = a; inside = b; rows = rw (copies_length rows (length rows) refl) c }
