-- What the functions below the judge and the writer of a flush compute from the store's tables.
use Rattle.std.specs.Prelude.{ℕ, Option, Some, None, ◌+◌, ◌-◌, ◌*◌, ◌≤◌, ◌<◌, max, ◌≡◌, Bool, true, not, List, [], ◌∷◌, ◌++◌, map, length, take, drop, get_or, ltb, eqb}
use Rattle.model.specs.declared.Pending.{Pending}
use Rattle.model.specs.declared.Past.{Past}
use Rattle.model.specs.declared.Answer.TheVariants.{PastFull, ArchiveFull}
use Rattle.model.specs.declared.Verdict.{Verdict}
use Rattle.model.specs.declared.Verdict.TheVariants.{Accepted, Idle, Refused}
use Rattle.model.specs.Limits.{most_past, most_copies}
use Rattle.model.specs.Lists.{both, either, pick, any_b, kept, rising_from}
use Rattle.model.specs.Store.{Store, Copy, page16, some_slot, object_at, page_of, beyond_b, look}
use Rattle.model.specs.Changes.{of_page, stored}
use Rattle.tables.specs.declared.CopyHead.{CopyHead}
use Rattle.tables.specs.declared.Heads.{Heads}
use Rattle.tables.specs.declared.Written.{Written}
use Rattle.tables.specs.Rows.{pendings, pasts}
use Rattle.tables.specs.Contents.{contents}
use Rattle.tables.specs.Lookups.{wanted_b}
use Rattle.views.specs.declared.View.{View}
use Rattle.views.specs.declared.Word.TheVariants.{Age}
use Rattle.views.specs.Views.{viewed}
use Rattle.flushes.specs.declared.rows.Rule.{Rule}

-- what a look at a page needs of the store
abbrev pub seen_in : Written → Heads → Store
seen_in w h = contents w.disk w.dated w.pending w.past [] [] [] h

-- ---- due snapshots, by a mark
-- the writing stamps as of the next known snapshot, the first of those behind one; current where there is none
abbrev pub first_of : List ℕ → Option ℕ
first_of [] = None
first_of (n ∷ ns) = Some n

abbrev pub next_view : ℕ → List ℕ → View
next_view p ns = record { page = p; as_of = first_of ns; word = Age }

abbrev pub due_seen : Store → ℕ → ℕ → ℕ → List ℕ → Bool
due_seen st p m s ns = both (ltb m s) (some_slot (λ k. ltb s (viewed st (next_view p ns) (object_at p k))))

abbrev pub dues_seen : Store → ℕ → ℕ → List ℕ → List ℕ
dues_seen st p m [] = []
dues_seen st p m (s ∷ ns) = pick (due_seen st p m s ns) (s ∷ dues_seen st p m ns) (dues_seen st p m ns)

-- for each of the snapshots from low to high there are sixteen words, which tell whether it is due, of the n that are known
abbrev pub Telling : Store → ℕ → ℕ → List ℕ → ℕ → ℕ → ℕ → List ℕ → Type 0
Telling st p m snapshots n low high ages =
    (i : ℕ) → low ≤ i → i < high → any_b (ltb (get_or snapshots i 0)) (take 16 (drop (16 * (i - low)) ages)) ≡ due_seen st p m (get_or snapshots i 0) (drop (i + 1) (take n snapshots))

-- those found are the due ones from low to high
abbrev pub ListedTo : Store → ℕ → ℕ → List ℕ → ℕ → ℕ → List ℕ → Type 0
ListedTo st p m known low high found = found ++ dues_seen st p m (drop high known) ≡ dues_seen st p m (drop low known)

-- the largest of a list, 0 where it is empty
abbrev pub top : List ℕ → ℕ
top [] = 0
top (s ∷ ss) = max s (top ss)

-- ---- past rows, by a rule
abbrev pub rule_of : Heads → ℕ → ℕ → Rule
rule_of h p m = record { page = p; mark = m; horizon = h.horizon; known = h.snapshots }

pub record Ruled (snapshots : List ℕ) (rule : Rule) : Type 0 where
  pub known_count : rule.known ≤ 64
  pub in_range : rule.page < 32
  pub rising : rising_from 0 (take rule.known snapshots) ≡ true

-- a row of another page stays, and so does a live one
abbrev pub stays_at : ℕ → ℕ → ℕ → List ℕ → Past → Bool
stays_at p m h known q = either (not (eqb (page_of q.object) p)) (either (beyond_b h q) (wanted_b known m q))

abbrev pub stays_under : List ℕ → Rule → Past → Bool
stays_under snapshots rule = stays_at rule.page rule.mark rule.horizon (take rule.known snapshots)

-- the row of the disk's old value
abbrev pub buried_in : List ℕ → List ℕ → Pending → Past
buried_in disk dated e = record { object = e.object; from = get_or dated e.object 0; until = e.first; value = get_or disk e.object 0 }

-- an entry of the page leaves a row
abbrev pub leaves_under : List ℕ → List ℕ → List ℕ → Rule → Pending → Bool
leaves_under disk dated snapshots rule e = both (of_page rule.page e) (stays_under snapshots rule (buried_in disk dated e))

abbrev pub graves : List ℕ → List ℕ → List ℕ → Rule → List Pending → List Past
graves disk dated snapshots rule es = map (buried_in disk dated) (kept (leaves_under disk dated snapshots rule) es)

-- the first n rows of the table are these
pub record Holding (past : List (List ℕ)) (n : ℕ) (qs : List Past) : Type 0 where
  pub rows : take n (pasts past) ≡ qs
  pub count : n ≡ length qs

-- ---- the verdict, by the page's entries, the due snapshots, the copies, and the past rows that there would be
abbrev pub verdict_by : ℕ → ℕ → ℕ → ℕ → Verdict
verdict_by entries dues copies rows =
    pick (eqb (entries + dues) 0) Idle
    (pick (ltb most_copies (copies + dues)) (Refused ArchiveFull)
    (pick (ltb most_past rows) (Refused PastFull)
    Accepted))

-- ---- copies: a copy's head, and the page as of a stamp that no copy serves
abbrev pub head_of : ℕ → ℕ → CopyHead
head_of p s = record { page = p; stamp = s }

abbrev pub copy_in : Written → Heads → ℕ → ℕ → Copy
copy_in w h p s = record { page = p; stamp = s; values = page16 (λ k. (look (seen_in w h) (object_at p k) s).value) }

-- ---- the page's entries go to disk, the others stay
pub record Settled (page : ℕ) (es : List Pending) (before after : Written) (n : ℕ) : Type 0 where
  pub values : after.disk ≡ stored page (λ e. e.value) es before.disk
  pub stamps : after.dated ≡ stored page (λ e. e.latest) es before.dated
  pub left : take n (pendings after.pending) ≡ kept (λ e. not (of_page page e)) es
  pub fewer : n ≤ length es
  pub past : after.past ≡ before.past
