-- "The command": the call that a line is, and the numbers of its list. A line that is no call is answered by its first fault from the left, with the column.
use Rattle.std.specs.Prelude.{ℕ, ◌+◌, ◌≡◌, List, [], ◌∷◌, Option, Some, None, Result, Ok, Err, map, length, take}
use Rattle.lines.specs.Words.{Word, words, uncommented}
use Rattle.lines.specs.Numbers.{item_at}
use Rattle.lines.specs.Hex.{Part}
use Rattle.lines.specs.Mistakes.{wrong}
use Rattle.lines.specs.Behind.{tail, first_number, first_two, first_hex, first_bytes, closing, of_read}
use Rattle.lines.specs.Names.{name_of, topic_of}
use Rattle.lines.specs.declared.Fault.TheVariants.{Unknown}
use Rattle.lines.specs.declared.Mistake.{Mistake}
use Rattle.lines.specs.declared.Topic.{Topic}
use Rattle.lines.specs.declared.Topic.TheVariants as topic
use Rattle.lines.specs.declared.Call.{Call}
use Rattle.lines.specs.declared.Call.TheVariants as call
use Rattle.lines.specs.declared.numbers.Row.{Row}
use Rattle.lines.specs.declared.numbers.Row.TheVariants.{Write, Stamp}
use Rattle.lines.specs.declared.names.Name.{Name}
use Rattle.lines.specs.declared.names.Name.TheVariants as name
use Rattle.lines.specs.declared.names.Bare.{Bare}
use Rattle.lines.specs.declared.names.Bare.TheVariants as bare
use Rattle.lines.specs.declared.names.Single.{Single}
use Rattle.lines.specs.declared.names.Single.TheVariants as single
use Rattle.lines.specs.declared.names.Double.{Double}
use Rattle.lines.specs.declared.names.Double.TheVariants as double

-- ---- a list of writes or of stamps: all its words are read, the first 17 are kept
-- a word before the rest of the list: the first fault decides
abbrev pub before : Result (ℕ × ℕ) Mistake → Result (List (ℕ × ℕ)) Mistake → Result (List (ℕ × ℕ)) Mistake
before (Err m) r = Err m
before (Ok p) (Err m) = Err m
before (Ok p) (Ok ps) = Ok (p ∷ ps)

abbrev pub items : Row → List Word → Result (List (ℕ × ℕ)) Mistake
items row [] = Ok []
items row (w ∷ ws) = before (item_at row w.column w.bytes) (items row ws)

abbrev pub kept : Result (List (ℕ × ℕ)) Mistake → List (ℕ × ℕ)
kept (Ok ps) = take 17 ps
kept (Err m) = []

abbrev pub counted : Result (List (ℕ × ℕ)) Mistake → Result ℕ Mistake
counted (Ok ps) = Ok (length (take 17 ps))
counted (Err m) = Err m

-- ---- the calls
abbrev pub of_list : (ℕ → Call) → Result ℕ Mistake → Result Call Mistake
of_list f (Err m) = Err m
of_list f (Ok n) = Ok (f n)

-- the calls that have no list
abbrev pub bare_call : Bare → Call
bare_call bare.Standing = call.Standing
bare_call bare.Fresh = call.Fresh
bare_call bare.Known = call.Known
bare_call bare.Quit = call.Quit

abbrev pub single_call : Single → ℕ → Call
single_call single.Flush n = call.Flush n
single_call single.Now n = call.Now n
single_call single.Cut n = call.Cut n
single_call single.Ask n = call.Ask n

abbrev pub double_call : Double → ℕ → ℕ → Call
double_call double.Read a b = call.Read a b
double_call double.Clock a b = call.Clock a b

abbrev pub with_one : Single → ℕ → List Word → Result Call Mistake
with_one s end ws = of_read (single_call s) (first_number end ws) (tail ws)

abbrev pub with_two : Double → ℕ → List Word → Result Call Mistake
with_two d end ws = of_read (λ p. double_call d p.0 p.1) (first_two end ws) (tail (tail ws))

abbrev pub with_hex : ℕ → List Word → Result Call Mistake
with_hex end ws = of_read (λ s. call.Hear s.from s.to) (first_hex end ws) (tail ws)

-- help on the calls, or on what the next word names
abbrev pub on_topic : Option Topic → ℕ → List Word → Result Call Mistake
on_topic None column ws = wrong Unknown column
on_topic (Some t) column ws = closing (call.Help t) ws

abbrev pub helped : List Word → Result Call Mistake
helped [] = Ok (call.Help topic.Calls)
helped (w ∷ ws) = on_topic (topic_of w.bytes) w.column ws

-- a call, with the numbers of its list, objects and values of a commit, stamps of a gossip; and with the word behind `hear`
pub record Parsed : Type 0 where
  pub call : Result Call Mistake
  pub firsts : List ℕ
  pub seconds : List ℕ
  pub word : List ℕ

abbrev pub plain : Result Call Mistake → Parsed
plain c = record { call = c; firsts = []; seconds = []; word = [] }

abbrev pub heard : ℕ → List Word → Parsed
heard end ws = record { call = with_hex end ws; firsts = []; seconds = []; word = first_bytes ws }

-- a commit of its stamp and its writes, a gossip of its two stamps and its list
abbrev pub commits : Result ℕ Mistake → Result (List (ℕ × ℕ)) Mistake → Parsed
commits (Err m) r = plain (Err m)
commits (Ok t) r = record { call = of_list (call.Commit t) (counted r); firsts = map (λ p. p.0) (kept r); seconds = map (λ p. p.1) (kept r); word = [] }

abbrev pub gossips : Result (ℕ × ℕ) Mistake → Result (List (ℕ × ℕ)) Mistake → Parsed
gossips (Err m) r = plain (Err m)
gossips (Ok p) r = record { call = of_list (call.Gossip p.0 p.1) (counted r); firsts = map (λ q. q.0) (kept r); seconds = []; word = [] }

abbrev pub with_writes : ℕ → List Word → Parsed
with_writes end ws = commits (first_number end ws) (items Write (tail ws))

abbrev pub with_stamps : ℕ → List Word → Parsed
with_stamps end ws = gossips (first_two end ws) (items Stamp (tail (tail ws)))

-- the call of a name, and of the words behind it
abbrev pub called : Name → ℕ → List Word → Parsed
called name.Commit end ws = with_writes end ws
called name.Gossip end ws = with_stamps end ws
called (name.Bare b) end ws = plain (closing (bare_call b) ws)
called (name.Single s) end ws = plain (with_one s end ws)
called (name.Double d) end ws = plain (with_two d end ws)
called name.Hear end ws = heard end ws
called name.Help end ws = plain (helped ws)

-- a name that begins in this column, or none
abbrev pub named : Option Name → ℕ → ℕ → List Word → Parsed
named None column end ws = plain (wrong Unknown column)
named (Some n) column end ws = called n end ws

-- the call of a line's words, of its text, and of the whole line
abbrev pub of_words : ℕ → List Word → Parsed
of_words end [] = plain (Ok call.Blank)
of_words end (w ∷ ws) = named (name_of w.bytes) w.column end ws

abbrev pub of_text : List ℕ → Parsed
of_text text = of_words (length text + 1) (words 1 text)

unfoldable pub parsed : List ℕ → Parsed
parsed line = of_text (uncommented line)

-- ---- what a call of a line promises: the call, and the lists at the front of the two tables
abbrev pub Begins : List ℕ → List ℕ → Type 0
Begins table list = take (length list) table ≡ list

pub record Reading (p : Parsed) (c : Result Call Mistake) (firsts seconds : List ℕ) : Type 0 where
  pub answered : c ≡ p.call
  pub first : Begins firsts p.firsts
  pub second : Begins seconds p.seconds

-- the promise of read_line: that, and that `hear` says where its word stands in the line
abbrev pub Heard : List ℕ → List ℕ → Result Call Mistake → Type 0
Heard line word c = (from to : ℕ) → c ≡ Ok (call.Hear from to) → Part line from to word

pub record ReadLine (line : List ℕ) (c : Result Call Mistake) (firsts seconds : List ℕ) : Type 0 where
  pub reading : Reading (parsed line) c firsts seconds
  pub heard : Heard line (parsed line).word c
