-- "The command", hex words: an even number of hex digits, at most 1024, of either case. The first fault of a word is told with its column.
use Rattle.std.specs.Prelude.{ℕ, ◌+◌, ◌*◌, ◌-◌, ◌%◌, ◌≤◌, ◌≡◌, List, [], ◌∷◌, Result, Ok, eqb, ltb, length, take, drop}
use Rattle.model.specs.Lists.{pick}
use Rattle.lines.specs.Words.{between, digit, hex_digit, leading}
use Rattle.lines.specs.Mistakes.{wrong}
use Rattle.lines.specs.declared.Fault.TheVariants.{Hex, Long, Odd}
use Rattle.lines.specs.declared.Mistake.{Mistake}
use Rattle.lines.specs.declared.words.Span.{Span}

-- the bytes from this column on, as a hex word: where it begins and ends in the line
abbrev pub hex_at : ℕ → List ℕ → Result Span Mistake
hex_at column bytes =
    pick (ltb (leading hex_digit bytes) (length bytes)) (wrong Hex (column + leading hex_digit bytes))
    (pick (ltb 1024 (length bytes)) (wrong Long column)
    (pick (eqb (length bytes % 2) 1) (wrong Odd column)
    (Ok (record { from = column - 1; to = column - 1 + length bytes }))))

-- the line's part from behind its first `from` bytes up to its first `to` is the word
pub record Part (line : List ℕ) (from to : ℕ) (word : List ℕ) : Type 0 where
  pub straight : from ≤ to
  pub within : to ≤ length line
  pub part : take (to - from) (drop from line) ≡ word

-- ---- the bytes of a hex word: a byte for each two digits. Of other words no more is said than this: what is no digit counts 0,
-- one byte that is left over makes none, and the bytes from the 513th on are dropped
abbrev pub hex_value : ℕ → ℕ
hex_value b = pick (digit b) (b - 48) (pick (between 97 102 b) (b - 87) (pick (between 65 70 b) (b - 55) 0))

abbrev pub hex_byte : ℕ → ℕ → ℕ
hex_byte a b = 16 * hex_value a + hex_value b

abbrev pub hex_pairs : List ℕ → List ℕ
hex_pairs [] = []
hex_pairs (a ∷ []) = []
hex_pairs (a ∷ b ∷ bs) = hex_byte a b ∷ hex_pairs bs

unfoldable pub hex_bytes : List ℕ → List ℕ
hex_bytes word = take 512 (hex_pairs word)

-- ---- the promise of read_hex: the bytes stand at the front of the lent ones, and r is how many
pub record Decoded (word out : List ℕ) (r : ℕ) : Type 0 where
  pub bytes : take r out ≡ hex_bytes word
  pub count : r ≡ length (hex_bytes word)
  pub most : r ≤ 512
  pub room : length out ≡ 512
  -- this follows, and is what `&out[..r]` asks
  pub counted : r ≡ length (take r out)
