-- A page looked at: its sixteen values or writing stamps, as of a stamp where no copy serves, or as they are now.
use Rattle.std.specs.Prelude.{ℕ, Option, Some, None, ◌≤◌, ◌<◌, ◌≡◌, Bool, false, List, [], ◌∷◌, map, take, set, eqb}
use Rattle.model.specs.declared.Seen.{Seen}
use Rattle.model.specs.declared.Pending.{Pending}
use Rattle.model.specs.declared.Past.{Past}
use Rattle.model.specs.Lists.{both, pick, twice_b}
use Rattle.model.specs.Store.{Store, page_of, current, look}
use Rattle.tables.specs.declared.Heads.{Heads}
use Rattle.tables.specs.declared.Written.{Written}
use Rattle.tables.specs.Rows.{pendings}
use Rattle.views.specs.declared.View.{View}
use Rattle.views.specs.Rows.{covers_by, shows_by}
use Rattle.views.specs.declared.Word.{Word}
use Rattle.views.specs.declared.Word.TheVariants.{Value, Age}

-- rows laid over sixteen words, the first row last: each that passes puts its word at its slot
abbrev pub lay : {A : Type 0} → (A → Bool) → (A → ℕ) → (A → ℕ) → List A → List ℕ → List ℕ
lay f slot word [] out = out
lay f slot word (x ∷ xs) out = pick (f x) (set (lay f slot word xs out) (slot x) (word x)) (lay f slot word xs out)

-- the part of a value that a view asks for
abbrev pub part_of : Word → Seen → ℕ
part_of Age x = x.stamp
part_of Value x = x.value

-- an object's value as of a stamp, or its current one
abbrev pub seen_by : Store → ℕ → Option ℕ → Seen
seen_by st o None = current st o
seen_by st o (Some s) = look st o s

abbrev pub viewed : Store → View → ℕ → ℕ
viewed st v o = part_of v.word (seen_by st o v.as_of)

-- what a look at the tables asks: counts within them, a page of the store, one entry an object
pub record Lookable (w : Written) (h : Heads) (page : ℕ) : Type 0 where
  pub pending_count : h.pending ≤ 128
  pub past_count : h.past ≤ 256
  pub in_range : page < 32
  pub single : twice_b (map (λ e. e.object) (take h.pending (pendings w.pending))) ≡ false

-- a row of the view's page that the view shows
abbrev pub covers_b : View → Past → Bool
covers_b v q = both (eqb (page_of q.object) v.page) (covers_by v.as_of q)

abbrev pub shows_b : View → Pending → Bool
shows_b v e = both (eqb (page_of e.object) v.page) (shows_by v.as_of e)
