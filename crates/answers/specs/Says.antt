-- What the keeper's command says: a line of bytes for each answer.
use Rattle.std.specs.Prelude.{ℕ, zero, suc, ◌+◌, ◌*◌, ◌-◌, ◌/◌, ◌%◌, ◌≤◌, ◌≡◌, Bool, List, [], ◌∷◌, ◌++◌, eqb, leb, ℤ, pos, negsuc, length, take, get_or}
use Prim.Native.Char.{code}
use Prim.Native.String.{String, [] as end, ◌∷◌ as ◌then◌}
use Rattle.model.specs.Lists.{pick, both}
use Rattle.model.specs.Answers.{code_of, number_of, is_done}
use Rattle.model.specs.declared.Figures.{Figures}
use Rattle.model.specs.declared.Answer.{Answer}
use Rattle.model.specs.declared.Answer.TheVariants.{Done, Nothing, Damaged, Shape, Twice, Late, Gap, Conflict, PendingFull, PastFull, SnapshotsFull, ArchiveFull, NoRoom, Ahead, NoSnapshot, Version, Malformed, Contradiction}

-- ---- the most bytes that a line has
abbrev pub room : ℕ
room = 2048

-- ---- texts: a byte for each character
abbrev pub text : String → List ℕ
text end = []
text (c then s) = code c ∷ text s

-- ---- numbers
-- the byte of a digit
abbrev pub digit : ℕ → ℕ
digit d = 48 + d

-- at most k digits of n, the most significant first, and none for 0
abbrev pub digits : ℕ → ℕ → List ℕ
digits zero n = []
digits (suc k) zero = []
digits (suc k) (suc n) = digits k (suc n / 10) ++ (digit (suc n % 10) ∷ [])

-- all of n's digits, and one for 0: no number has more digits than it counts, but 0
unfoldable pub decimal : ℕ → List ℕ
decimal n = digits n (n / 10) ++ (digit (n % 10) ∷ [])

-- the number that digits make, after those that made a
abbrev pub value_after : ℕ → List ℕ → ℕ
value_after a [] = a
value_after a (d ∷ ds) = value_after (a * 10 + (d - 48)) ds

abbrev pub value_of : List ℕ → ℕ
value_of ds = value_after 0 ds

abbrev pub is_digit : ℕ → Bool
is_digit b = both (leb 48 b) (leb b 57)

-- each with a space in front
abbrev pub spaced : List ℕ → List ℕ
spaced [] = []
spaced (n ∷ ns) = (text " " ++ decimal n) ++ spaced ns

-- with a sign where it is negative
abbrev pub signed : ℤ → List ℕ
signed (pos n) = decimal n
signed (negsuc n) = text "-" ++ decimal (suc n)

-- ---- the answers of document 01
abbrev pub name_of : Answer → List ℕ
name_of (Done n) = text "Done"
name_of (Nothing n) = text "Nothing"
name_of Damaged = text "Damaged"
name_of Shape = text "Shape"
name_of Twice = text "Twice"
name_of (Late n) = text "Late"
name_of (Gap n) = text "Gap"
name_of (Conflict n) = text "Conflict"
name_of PendingFull = text "Pending full"
name_of PastFull = text "Past full"
name_of SnapshotsFull = text "Snapshots full"
name_of ArchiveFull = text "Archive full"
name_of (NoRoom n) = text "No journal room"
name_of (Ahead n) = text "Ahead"
name_of NoSnapshot = text "No snapshot"
name_of (Version n) = text "Version"
name_of (Malformed n) = text "Malformed"
name_of (Contradiction n) = text "Contradiction"

-- the code, the number, the name
abbrev pub answer_text : Answer → List ℕ
answer_text a = decimal (code_of a) ++ (text " " ++ decimal (number_of a)) ++ text " " ++ name_of a

abbrev pub answer_line : Answer → List ℕ
answer_line a = answer_text a ++ text "\n"

abbrev pub opened_line : Answer → List ℕ
opened_line a = text ": " ++ answer_text a ++ text "\n"

-- a page's words stand behind the answer where the page was read and there are sixteen of them
abbrev pub page_text : Answer → List ℕ → List ℕ
page_text a ws = pick (both (is_done a) (eqb (length ws) 16)) (spaced ws) []

abbrev pub page_line : Answer → List ℕ → List ℕ
page_line a ws = answer_text a ++ page_text a ws ++ text "\n"

-- what is known stands behind the answer where it is Done and there are at most 64 stamps: the horizon, the last stamp, the stamps
abbrev pub known_text : Answer → ℕ → ℕ → List ℕ → List ℕ
known_text a horizon last stamps = pick (both (is_done a) (leb (length stamps) 64)) (spaced (horizon ∷ last ∷ stamps)) []

abbrev pub known_line : Answer → ℕ → ℕ → List ℕ → List ℕ
known_line a horizon last stamps = answer_text a ++ known_text a horizon last stamps ++ text "\n"

-- the figures stand behind the answer where it is Done: pending, past, snapshots, copies, and the lag with its sign
abbrev pub figures_text : Figures → List ℕ
figures_text f = spaced (f.pending ∷ f.past ∷ f.snapshots ∷ f.copies ∷ []) ++ text " " ++ signed f.lag

abbrev pub standing_line : Answer → Figures → List ℕ
standing_line a f = answer_text a ++ pick (is_done a) (figures_text f) [] ++ text "\n"

-- ---- a line that is no call: what is wrong, by its number, and where
abbrev pub faults : List (List ℕ)
faults =
    text "no such call"
    ∷ text "a word is missing"
    ∷ text "no digit"
    ∷ text "a number of 2^64 or more"
    ∷ text "`=` is missing"
    ∷ text "a word too many"
    ∷ text "no hex digit"
    ∷ text "more than 1024 hex digits"
    ∷ text "an odd number of hex digits"
    ∷ []

abbrev pub fault_text : ℕ → List ℕ
fault_text fault = get_or faults fault (text "not a call")

abbrev pub position_text : ℕ → ℕ → List ℕ
position_text line column = text " at line " ++ decimal line ++ text " column " ++ decimal column

-- what to do about it, where there is no such call
abbrev pub hint_text : ℕ → List ℕ
hint_text fault = pick (eqb fault 0) (text "; help lists them") []

abbrev pub fault_line : ℕ → ℕ → ℕ → List ℕ
fault_line fault line column = text "? " ++ fault_text fault ++ position_text line column ++ hint_text fault ++ text "\n"

-- ---- a line at the front of `room` bytes, and r is how many bytes it has
pub record Said (line out : List ℕ) (r : ℕ) : Type 0 where
  pub said : take r out ≡ line
  pub count : r ≤ room
  pub room : length out ≡ room
  -- this follows, and is what `&out[..r]` asks
  pub counted : r ≡ length (take r out)
