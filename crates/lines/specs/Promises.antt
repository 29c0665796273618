-- What the parts of the reader promise each other: where the next word is, what is taken from the front of the words, what a list leaves.
use Rattle.std.specs.Prelude.{ℕ, ◌+◌, ◌-◌, ◌≤◌, ◌<◌, ◌≡◌, List, [], ◌∷◌, Option, Result, MatchOption, MatchResult, map, length, take, drop}
use Rattle.lines.specs.Words.{Word, word, words_from}
use Rattle.lines.specs.Behind.{tail}
use Rattle.lines.specs.Lines.{kept, counted, Begins}
use Rattle.lines.specs.declared.Fault.TheVariants.{Missing}
use Rattle.lines.specs.declared.Mistake.{Mistake}
use Rattle.lines.specs.declared.words.Span.{Span}
use Rattle.lines.specs.declared.words.Reader.{Reader}

-- the bytes of a span
abbrev pub bytes_of : List ℕ → Span → List ℕ
bytes_of text s = take (s.to - s.from) (drop s.from text)

-- the next word from `at` on
pub record Stands (text : List ℕ) (at : ℕ) (s : Span) : Type 0 where
  pub onward : at ≤ s.from
  pub some : s.from < s.to
  pub within : s.to ≤ length text
  pub words : words_from text at ≡ word (s.from + 1) (bytes_of text s) ∷ words_from text s.to

-- what a reader has before it, and the column behind its text
abbrev pub ahead : Reader → List Word
ahead r = words_from r.text.now r.at

abbrev pub end_of : Reader → ℕ
end_of r = length r.text.now + 1

-- a reader finds the next word, and stands behind it
pub record Found (r r' : Reader) (s : Span) : Type 0 where
  pub stands : Stands r.text.now r.at s
  pub text : r'.text.now ≡ r.text.now
  pub behind : r'.at ≡ s.to

-- there is none
pub record Ended (r r' : Reader) : Type 0 where
  pub none : ahead r ≡ []
  pub text : r'.text.now ≡ r.text.now
  pub behind : r'.at ≡ r.at

abbrev pub Next : Reader → Reader → Option Span → Type 0
Next r r' o = MatchOption o (Ended r r') (λ s. Found r r' s)

abbrev pub Needs : Reader → Reader → Result Span Mistake → Type 0
Needs r r' o = MatchResult o (λ s. Found r r' s) (λ m. Ended r r' × (m ≡ record { fault = Missing; column = end_of r }))

-- a reader passes the next word
pub record Passed (r r' : Reader) : Type 0 where
  pub text : r'.text.now ≡ r.text.now
  pub behind : ahead r' ≡ tail (ahead r)

-- what is told of a list, and what stands in the tables
pub record Listing (r : Result (List (ℕ × ℕ)) Mistake) (l : Result ℕ Mistake) (firsts seconds : List ℕ) : Type 0 where
  pub told : l ≡ counted r
  pub first : Begins firsts (map (λ p. p.0) (kept r))
  pub second : Begins seconds (map (λ p. p.1) (kept r))
