-- What the words behind a name say, for a call and for an order alike: numbers, a hex word, and that nothing stands behind them.
-- `end` is the column behind the line. The first fault from the left decides.
use Rattle.std.specs.Prelude.{ℕ, List, [], ◌∷◌, Result, Ok, Err}
use Rattle.lines.specs.Words.{Word}
use Rattle.lines.specs.Mistakes.{wrong}
use Rattle.lines.specs.Numbers.{number_at, paired}
use Rattle.lines.specs.Hex.{hex_at}
use Rattle.lines.specs.declared.Fault.TheVariants.{Missing, Extra}
use Rattle.lines.specs.declared.Mistake.{Mistake}
use Rattle.lines.specs.declared.words.Span.{Span}

-- ---- at the front of the words
abbrev pub tail : List Word → List Word
tail [] = []
tail (w ∷ ws) = ws

abbrev pub first_number : ℕ → List Word → Result ℕ Mistake
first_number end [] = wrong Missing end
first_number end (w ∷ ws) = number_at w.column w.bytes

abbrev pub first_two : ℕ → List Word → Result (ℕ × ℕ) Mistake
first_two end ws = paired (first_number end ws) (first_number end (tail ws))

abbrev pub first_hex : ℕ → List Word → Result Span Mistake
first_hex end [] = wrong Missing end
first_hex end (w ∷ ws) = hex_at w.column w.bytes

abbrev pub first_bytes : List Word → List ℕ
first_bytes [] = []
first_bytes (w ∷ ws) = w.bytes

-- ---- nothing may stand behind
abbrev pub closing : {A : Type 0} → A → List Word → Result A Mistake
closing a [] = Ok a
closing a (w ∷ ws) = wrong Extra w.column

-- ---- an answer of what is read (a number, two, a hex word), behind which nothing stands
abbrev pub of_read : {A B : Type 0} → (A → B) → Result A Mistake → List Word → Result B Mistake
of_read f (Err m) ws = Err m
of_read f (Ok a) ws = closing (f a) ws
