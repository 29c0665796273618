-- Bytes and words, and what it says of a journal's bytes that a record is read from them or written to them.
use Rattle.std.specs.Prelude.{ℕ, ◌+◌, ◌-◌, ◌^◌, ◌<◌, ◌≤◌, ◌≡◌, true, List, [], ◌∷◌, map, length, take, drop}
use Rattle.model.specs.Changes.{Change, commit, gossip, flush}
use Rattle.model.specs.Judgement.{well_formed}
use Rattle.model.specs.Records.{encode}

-- a fact of all of a list
abbrev pub All : {A : Type 0} → (A → Type 0) → List A → Type 0
All P [] = Unit {0}
All P (x ∷ xs) = P x × All P xs

abbrev pub Below : ℕ → List ℕ → Type 0
Below n xs = All (λ x. x < n) xs

abbrev pub Bytes : List ℕ → Type 0
Bytes bs = Below 256 bs

-- every number of the change fits a u64; its objects, page and count are bounded by well_formed
abbrev pub Words : Change → Type 0
Words (commit t ws) = (t < 2 ^ 64) × Below (2 ^ 64) (map (λ w. w.value) ws)
Words (gossip prev curr stamps) = (prev < 2 ^ 64) × (curr < 2 ^ 64) × Below (2 ^ 64) stamps
Words (flush p) = Unit {0}

-- the bytes left begin with the encoding of c, which ends at next, and c may stand in a journal
pub record Begins (left : List ℕ) (at next : ℕ) (c : Change) : Type 0 where
  pub taken : take (next - at) left ≡ encode c
  pub ends : next ≡ at + length (encode c)
  pub fits : length (encode c) ≤ length left
  pub formed : well_formed c ≡ true
  pub words : Words c

-- k is j with the bytes bs from at on, and every other byte of j as it was
pub record Only (at : ℕ) (bs j k : List ℕ) : Type 0 where
  pub before : take at k ≡ take at j
  pub here : take (length bs) (drop at k) ≡ bs
  pub behind : drop (at + length bs) k ≡ drop (at + length bs) j
  pub same_length : length k ≡ length j
