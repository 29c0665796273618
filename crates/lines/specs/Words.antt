-- "The command", the words of a line: what stands before the first `#`, parted by blanks. A word knows the column where it begins, counted from 1.
use Rattle.std.specs.Prelude.{ℕ, suc, Bool, not, List, [], ◌∷◌, eqb, leb, drop}
use Rattle.model.specs.Lists.{both, either, pick}
use Rattle.lines.specs.declared.words.Class.{Class}
use Rattle.lines.specs.declared.words.Class.TheVariants.{Gap, Ink, Figure, Hex, Text, Left}

-- space, tab, carriage return
abbrev pub blank : ℕ → Bool
blank b = either (eqb b 32) (either (eqb b 9) (eqb b 13))

abbrev pub between : ℕ → ℕ → ℕ → Bool
between low high b = both (leb low b) (leb b high)

-- `0` to `9`
abbrev pub digit : ℕ → Bool
digit b = between 48 57 b

-- `0` to `9`, `a` to `f`, `A` to `F`
abbrev pub hex_digit : ℕ → Bool
hex_digit b = either (digit b) (either (between 97 102 b) (between 65 70 b))

-- the bytes before the first `#`
abbrev pub uncommented : List ℕ → List ℕ
uncommented [] = []
uncommented (b ∷ bs) = pick (eqb b 35) [] (b ∷ uncommented bs)

pub record Word : Type 0 where
  pub column : ℕ
  pub bytes : List ℕ

abbrev pub word : ℕ → List ℕ → Word
word column bytes = record { column = column; bytes = bytes }

-- a byte before words: part of the first where that begins in the next column, else a word of its own
abbrev pub led : ℕ → ℕ → List Word → List Word
led column b [] = word column (b ∷ []) ∷ []
led column b (w ∷ ws) =
    pick (eqb w.column (suc column))
    (word column (b ∷ w.bytes) ∷ ws)
    (word column (b ∷ []) ∷ (w ∷ ws))

-- the words of bytes of which the first stands in this column
abbrev pub words : ℕ → List ℕ → List Word
words column [] = []
words column (b ∷ bs) = pick (blank b) (words (suc column) bs) (led column b (words (suc column) bs))

-- the words of a text from behind its first `at` bytes on
abbrev pub words_from : List ℕ → ℕ → List Word
words_from text at = words (suc at) (drop at text)

-- ---- runs of bytes: how many at the beginning pass a test
abbrev pub leading : (ℕ → Bool) → List ℕ → ℕ
leading f [] = 0
leading f (b ∷ bs) = pick (f b) (suc (leading f bs)) 0

-- blank, not blank, a digit, a hex digit, not `#`, not `=`
abbrev pub of_class : Class → ℕ → Bool
of_class Gap b = blank b
of_class Ink b = not (blank b)
of_class Figure b = digit b
of_class Hex b = hex_digit b
of_class Text b = not (eqb b 35)
of_class Left b = not (eqb b 61)
