-- Bytes in hexadecimal: two digits a byte, the upper one first, in lower case. What is written reads back (proofs/Hexes).
use Rattle.std.specs.Prelude.{ℕ, ◌+◌, ◌*◌, ◌-◌, ◌/◌, ◌%◌, not, List, [], ◌∷◌, ◌++◌, ltb, leb, length}
use Rattle.model.specs.Lists.{pick, both, empty_b}
use Rattle.model.specs.declared.Answer.{Answer}
use Rattle.answers.specs.Says.{text, answer_text}

-- the byte of a digit: `0` to `9`, `a` to `f`
abbrev pub hex_digit : ℕ → ℕ
hex_digit d = pick (ltb d 10) (48 + d) (87 + d)

-- a byte's two digits
abbrev pub hex_pair : ℕ → List ℕ
hex_pair b = hex_digit (b / 16) ∷ hex_digit (b % 16) ∷ []

abbrev pub hex_of : List ℕ → List ℕ
hex_of [] = []
hex_of (b ∷ bs) = hex_pair b ++ hex_of bs

-- ---- the bytes that digits make
abbrev pub hex_value : ℕ → ℕ
hex_value c = pick (ltb c 58) (c - 48) (c - 87)

abbrev pub hex_bytes : List ℕ → List ℕ
hex_bytes [] = []
hex_bytes (c ∷ []) = []
hex_bytes (c ∷ d ∷ ds) = (hex_value c * 16 + hex_value d) ∷ hex_bytes ds

-- ---- bytes stand behind the answer where there are any and at most 512
abbrev pub bytes_text : List ℕ → List ℕ
bytes_text bs = pick (both (not (empty_b bs)) (leb (length bs) 512)) (text " " ++ hex_of bs) []

abbrev pub bytes_line : Answer → List ℕ → List ℕ
bytes_line a bs = answer_text a ++ bytes_text bs ++ text "\n"
