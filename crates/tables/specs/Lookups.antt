-- What the searches answer, by the model's definitions.
use Rattle.std.specs.Prelude.{ℕ, zero, suc, ◌-◌, ◌<◌, ◌≡◌, Bool, true, false, not, List, [], ◌∷◌, length, get_or, take, ltb, leb, eqb, Option, Some, None}
use Rattle.model.specs.declared.Pending.{Pending}
use Rattle.model.specs.declared.Past.{Past}
use Rattle.model.specs.Lists.{both, either, pick, any_b}
use Rattle.model.specs.Store.{Copy, Served, unserved, by, oldest, page_of, in_span, beyond_b}
use Rattle.model.specs.Reads.{largest}
use Rattle.tables.specs.declared.CopyHead.{CopyHead}
use Rattle.tables.specs.Rows.{copies_of}

abbrev pub pick_found : Bool → Option ℕ → Option ℕ → Option ℕ
pick_found true a b = a
pick_found false a b = b

-- the index of the first row that passes, counted from k
abbrev pub first_at : {A : Type 0} → (A → Bool) → List A → ℕ → Option ℕ
first_at f [] k = None
first_at f (x ∷ xs) k = pick_found (f x) (Some k) (first_at f xs (suc k))

abbrev pub find_pending : ℕ → List Pending → Option ℕ
find_pending o es = first_at (λ e. eqb e.object o) es 0

-- 128 where the object has no entry
abbrev pub row_of : Option ℕ → ℕ
row_of (Some i) = i
row_of None = 128

-- the row of each object's entry
pub record Indexed (index : List ℕ) (es : List Pending) : Type 0 where
  pub objects_in : length index ≡ 512
  pub row_at : (o : ℕ) → o < 512 → get_or index o 0 ≡ row_of (find_pending o es)

-- how many of the first n rows are left without those at their end that don't pass; past the list's end a row is d
abbrev pub trimmed : {A : Type 0} → (A → Bool) → A → List A → ℕ → ℕ
trimmed f d l zero = 0
trimmed f d l (suc n) = pick (f (get_or l n d)) (suc n) (trimmed f d l n)

-- the copy that an index names
abbrev pub served_at : Option ℕ → List Copy → Served
served_at None cs = unserved
served_at (Some i) cs = by (get_or cs i (record { page = 0; stamp = 0; values = [] }))

abbrev pub Within : Option ℕ → ℕ → Type 0
Within None n = Unit {0}
Within (Some i) n = i < n

-- the index of the copy that serves s, among n copies whatever words they hold
pub record Serving (p s n : ℕ) (heads : List CopyHead) (f : Option ℕ) : Type 0 where
  pub copy : (words : List ℕ) → served_at f (copies_of heads words) ≡ oldest p s (take n (copies_of heads words))
  pub inside : Within f n

-- the last known snapshot before a stamp, or 0
abbrev pub last_before : List ℕ → ℕ → ℕ
last_before known u = pick (eqb u 0) 0 (largest (u - 1) known)

-- a stamp that is not before the row's span, beyond a mark
abbrev pub wants_b : ℕ → ℕ → Past → Bool
wants_b s m q = both (leb q.from s) (ltb m s)

-- a known snapshot in the row's span, beyond a mark
abbrev pub wanted_b : List ℕ → ℕ → Past → Bool
wanted_b known m q = any_b (λ s. both (in_span s q) (ltb m s)) known

-- a row is judged where the scope is its page, or every page; the marks stand by page number
abbrev pub in_scope : Option ℕ → Past → Bool
in_scope (Some p) q = eqb (page_of q.object) p
in_scope None q = true

-- a row stays where it is not judged, or is live
abbrev pub stays_by : Option ℕ → ℕ → List ℕ → List ℕ → Past → Bool
stays_by scope h known marks q =
    either (not (in_scope scope q)) (either (beyond_b h q) (wanted_b known (get_or marks (page_of q.object) 0) q))
