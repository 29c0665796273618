-- "The command", numbers: one or more decimal digits, of a value below 2^64. The first fault of a word is told with its column.
use Rattle.std.specs.Prelude.{ℕ, ◌+◌, ◌*◌, ◌-◌, ◌^◌, List, [], ◌∷◌, Result, Ok, Err, ltb, length, take, drop}
use Rattle.model.specs.Lists.{pick, empty_b}
use Rattle.lines.specs.Words.{digit, leading, of_class}
use Rattle.lines.specs.Mistakes.{wrong}
use Rattle.lines.specs.declared.words.Class.TheVariants.{Left}
use Rattle.lines.specs.declared.Fault.TheVariants.{Missing, Digit, Large, Equals}
use Rattle.lines.specs.declared.Mistake.{Mistake}
use Rattle.lines.specs.declared.numbers.Row.{Row}
use Rattle.lines.specs.declared.numbers.Row.TheVariants.{Write, Stamp}

-- digits behind a number
abbrev pub decimal : ℕ → List ℕ → ℕ
decimal n [] = n
decimal n (b ∷ bs) = decimal (n * 10 + (b - 48)) bs

-- digits, as a number below 2^64
abbrev pub sized : ℕ → List ℕ → Result ℕ Mistake
sized column bytes = pick (ltb (decimal 0 bytes) (2 ^ 64)) (Ok (decimal 0 bytes)) (wrong Large column)

-- the bytes from this column on, as a number
abbrev pub number_at : ℕ → List ℕ → Result ℕ Mistake
number_at column bytes =
    pick (empty_b bytes) (wrong Missing column)
    (pick (ltb (leading digit bytes) (length bytes)) (wrong Digit (column + leading digit bytes))
    (sized column bytes))

-- two numbers: the first fault decides
abbrev pub paired : Result ℕ Mistake → Result ℕ Mistake → Result (ℕ × ℕ) Mistake
paired (Err m) y = Err m
paired (Ok a) (Err m) = Err m
paired (Ok a) (Ok b) = Ok (a, b)

-- a write is OBJECT=VALUE: `key` is how many bytes stand before the first `=`
abbrev pub value_at : ℕ → ℕ → List ℕ → Result ℕ Mistake
value_at key column bytes =
    pick (ltb key (length bytes))
    (number_at (column + (key + 1)) (drop (key + 1) bytes))
    (wrong Equals (column + length bytes))

abbrev pub split_at : ℕ → ℕ → List ℕ → Result (ℕ × ℕ) Mistake
split_at key column bytes = paired (number_at column (take key bytes)) (value_at key column bytes)

abbrev pub write_at : ℕ → List ℕ → Result (ℕ × ℕ) Mistake
write_at column bytes = split_at (leading (of_class Left) bytes) column bytes

-- a word of a list: a write, or a stamp, which has no second number
abbrev pub item_at : Row → ℕ → List ℕ → Result (ℕ × ℕ) Mistake
item_at Write column bytes = write_at column bytes
item_at Stamp column bytes = paired (number_at column bytes) (Ok 0)
