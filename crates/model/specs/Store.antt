-- Document 01, "What the store holds".
use Rattle.std.specs.Prelude.{ℕ, ◌+◌, ◌*◌, ◌/◌, ◌%◌, ◌-◌, max, Bool, List, [], ◌∷◌, get_or, replicate, ltb, leb, eqb}
use Rattle.model.specs.declared.Pending.{Pending}
use Rattle.model.specs.declared.Past.{Past}
use Rattle.model.specs.declared.Seen.{Seen}
use Rattle.model.specs.Limits.{slots, objects}
use Rattle.model.specs.Lists.{both, either, pick, any_b, tab, some_below}

-- "copies, each a page number, a snapshot stamp and 16 values"
pub record Copy : Type 0 where
  pub page : ℕ
  pub stamp : ℕ
  pub values : List ℕ

-- Disk (a value and a stamp by object number), pending, past values, known snapshots, horizon H, last commit L, archive
pub record Store : Type 0 where
  pub values : List ℕ
  pub stamps : List ℕ
  pub pending : List Pending
  pub past : List Past
  pub snapshots : List ℕ
  pub horizon : ℕ
  pub last : ℕ
  pub copies : List Copy

-- "Fresh": each part as its line says
unfoldable pub fresh : Store
fresh = record {
  values = replicate objects 0;
  stamps = replicate objects 0;
  pending = [];
  past = [];
  snapshots = [];
  horizon = 0;
  last = 0;
  copies = [];
}

-- ---- pages: "object number = 16 x page + slot"
abbrev pub object_at : ℕ → ℕ → ℕ
object_at p k = slots * p + k

abbrev pub page_of : ℕ → ℕ
page_of o = o / slots

abbrev pub slot_of : ℕ → ℕ
slot_of o = o % slots

-- a number for each slot of a page; some slot of a page
unfoldable pub page16 : (ℕ → ℕ) → List ℕ
page16 f = tab slots f

unfoldable pub some_slot : (ℕ → Bool) → Bool
some_slot f = some_below slots f

-- ---- "A page's mark is the largest stamp of its copies, 0 if it has none."
abbrev pub mark : List Copy → ℕ → ℕ
mark [] p = 0
mark (c ∷ cs) p = pick (eqb c.page p) (max c.stamp (mark cs p)) (mark cs p)

-- ---- "The object had this value at each stamp s with from <= s < until."
abbrev pub in_span : ℕ → Past → Bool
in_span s q = both (leb q.from s) (ltb s q.until)

abbrev pub holds_b : ℕ → ℕ → Past → Bool
holds_b o s q = both (eqb q.object o) (in_span s q)

-- ---- "live when some stamp s in its span is beyond H, or is a known snapshot beyond the mark of its page":
-- until - 1 is the largest stamp of a span that has any
abbrev pub beyond_b : ℕ → Past → Bool
beyond_b h q = both (ltb q.from q.until) (ltb h (q.until - 1))

abbrev pub live_b : ℕ → List ℕ → List Copy → Past → Bool
live_b h known cs q =
    either (beyond_b h q) (any_b (λ s. both (in_span s q) (ltb (mark cs (page_of q.object)) s)) known)

-- ---- an object's pending entry
pub data Slot : Type 0 where
  none : Slot
  some : Pending → Slot

abbrev pub lookup : ℕ → List Pending → Slot
lookup o [] = none
lookup o (e ∷ es) = pick (eqb e.object o) (some e) (lookup o es)

-- ---- "the page's oldest copy with stamp >= s (the first row among equals)"
pub data Served : Type 0 where
  unserved : Served
  by : Copy → Served

abbrev pub older : Served → Served → Served
older unserved d = d
older (by c) unserved = by c
older (by c) (by d) = by (pick (leb c.stamp d.stamp) c d)

abbrev pub oldest : ℕ → ℕ → List Copy → Served
oldest p s [] = unserved
oldest p s (c ∷ cs) = older (pick (both (eqb c.page p) (leb s c.stamp)) (by c) unserved) (oldest p s cs)

-- ---- values with their writing stamps
abbrev pub disk : Store → ℕ → Seen
disk st o = record { value = get_or st.values o 0; stamp = get_or st.stamps o 0 }

abbrev pub pending_seen : Pending → Seen
pending_seen e = record { value = e.value; stamp = e.latest }

abbrev pub past_seen : Past → Seen
past_seen q = record { value = q.value; stamp = q.from }

-- "The current value is the pending one, else the disk one."
abbrev pub current_of : Slot → Seen → Seen
current_of none d = d
current_of (some e) d = pending_seen e

abbrev pub current : Store → ℕ → Seen
current st o = current_of (lookup o st.pending) (disk st o)

-- "the first past value whose span holds s", else d
abbrev pub span_or : ℕ → ℕ → List Past → Seen → Seen
span_or o s [] d = d
span_or o s (q ∷ qs) d = pick (holds_b o s q) (past_seen q) (span_or o s qs d)

-- "the pending value if its latest stamp <= s", else x
abbrev pub look_of : Slot → ℕ → Seen → Seen
look_of none s x = x
look_of (some e) s x = pick (leb e.latest s) (pending_seen e) x

-- the value as of s in all cases but the first, with its writing stamp
abbrev pub look : Store → ℕ → ℕ → Seen
look st o s = look_of (lookup o st.pending) s (span_or o s st.past (disk st o))

-- "The value as of s": the serving copy's, else the one looked up
abbrev pub served_or : Served → ℕ → ℕ → ℕ
served_or unserved o v = v
served_or (by c) o v = get_or c.values (slot_of o) 0

abbrev pub as_of : Store → ℕ → ℕ → ℕ
as_of st o s = served_or (oldest (page_of o) s st.copies) o (look st o s).value

-- ---- the sixteen values of a page, as of s and now
unfoldable pub page_as_of : Store → ℕ → ℕ → List ℕ
page_as_of st p s = page16 (λ k. as_of st (object_at p k) s)

unfoldable pub page_now : Store → ℕ → List ℕ
page_now st p = page16 (λ k. (current st (object_at p k)).value)
