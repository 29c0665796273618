-- Document 01, "The journal": "All numbers big-endian." The width w is the number of bytes.
use Rattle.std.specs.Prelude.{ℕ, zero, suc, ◌+◌, ◌*◌, ◌/◌, ◌%◌, List, [], ◌∷◌, ◌++◌, length, take, drop}

-- the w bytes of x, the highest first
abbrev pub be : ℕ → ℕ → List ℕ
be zero x = []
be (suc w) x = be w (x / 256) ++ (x % 256 ∷ [])

-- the number that bytes make, after those that made a
abbrev pub from_be_after : ℕ → List ℕ → ℕ
from_be_after a [] = a
from_be_after a (b ∷ bs) = from_be_after (a * 256 + b) bs

abbrev pub from_be : List ℕ → ℕ
from_be bs = from_be_after 0 bs

-- n numbers of w bytes each, every one beginning stride bytes behind the one before it
abbrev pub column : ℕ → ℕ → ℕ → List ℕ → List ℕ
column w stride zero b = []
column w stride (suc n) b = from_be (take w b) ∷ column w stride n (drop stride b)

-- the bytes bs written over those of j from a place on, and no other byte
abbrev pub write_at : ℕ → List ℕ → List ℕ → List ℕ
write_at at bs j = take at j ++ (bs ++ drop (at + length bs) j)
