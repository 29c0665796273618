-- Document 01, "The journal": a record's bytes, and what a reader finds at a place.
use Rattle.std.specs.Prelude.{ℕ, ◌+◌, ◌*◌, ◌-◌, List, [], ◌∷◌, ◌++◌, length, take, drop, get_or, ltb, eqb}
use Rattle.model.specs.Lists.{both, either, pick, empty_b}
use Rattle.model.specs.Bytes.{be, from_be, column}
use Rattle.model.specs.Changes.{Write, Change, commit, gossip, flush, paired}
use Rattle.model.specs.Judgement.{well_formed}

-- ---- "a two-byte length of what follows, a kind byte, a body"
-- "kind 1: stamp u64, count u8, then per write object u16 and value u64. Length 10 + 10n."
-- "kind 2: prev u64, curr u64, count u8, stamps u64. Length 18 + 8n."
-- "kind 3: page u8. Length 2."
abbrev pub length_of : Change → ℕ
length_of (commit t ws) = 10 + 10 * length ws
length_of (gossip prev curr stamps) = 18 + 8 * length stamps
length_of (flush p) = 2

abbrev pub write_bytes : List Write → List ℕ
write_bytes [] = []
write_bytes (w ∷ ws) = be 2 w.object ++ (be 8 w.value ++ write_bytes ws)

abbrev pub stamp_bytes : List ℕ → List ℕ
stamp_bytes [] = []
stamp_bytes (s ∷ ss) = be 8 s ++ stamp_bytes ss

abbrev pub body_of : Change → List ℕ
body_of (commit t ws) = be 8 t ++ (be 1 (length ws) ++ write_bytes ws)
body_of (gossip prev curr stamps) = be 8 prev ++ (be 8 curr ++ (be 1 (length stamps) ++ stamp_bytes stamps))
body_of (flush p) = be 1 p

abbrev pub kind_of : Change → ℕ
kind_of (commit t ws) = 1
kind_of (gossip prev curr stamps) = 2
kind_of (flush p) = 3

unfoldable pub encode : Change → List ℕ
encode c = be 2 (length_of c) ++ (be 1 (kind_of c) ++ body_of c)

-- ---- reading a body: the fields where they stand; a count says how many rows follow
abbrev pub commit_in : List ℕ → Change
commit_in b =
    let n = get_or b 8 0 in commit (from_be (take 8 b)) (paired (column 2 10 n (drop 9 b)) (column 8 10 n (drop 11 b)))

abbrev pub gossip_in : List ℕ → Change
gossip_in b = let n = get_or b 16 0 in gossip (from_be (take 8 b)) (from_be (take 8 (drop 8 b))) (column 8 8 n (drop 17 b))

abbrev pub flush_in : List ℕ → Change
flush_in b = flush (get_or b 0 0)

-- "A whole record with a wrong kind, count, length, object, page or stamps (the Shape and Twice rules) is malformed."
pub data Decoded : Type 0 where
  bad : Decoded
  good : Change → Decoded

abbrev pub checked : ℕ → Change → Decoded
checked n c = pick (both (eqb (length_of c) n) (well_formed c)) (good c) bad

-- the record whose length is n, of kind k, with the body b
unfoldable pub decode : ℕ → ℕ → List ℕ → Decoded
decode n k b =
    pick (eqb k 1) (checked n (commit_in b))
    (pick (eqb k 2) (checked n (gossip_in b))
    (pick (eqb k 3) (checked n (flush_in b))
    bad))

-- ---- "A reader walks the journal record by record": what stands at a place. A malformed record is told by the offset of its
-- length, a whole one by the change and the next place
pub data Step : Type 0 where
  end : Step
  short : Step
  malformed : ℕ → Step
  whole : Change → ℕ → Step

abbrev pub step_of : Decoded → ℕ → ℕ → Step
step_of bad at next = malformed at
step_of (good c) at next = whole c next

-- "A length under 2 or over 170 is malformed at once. A record whose bytes aren't all there ends the walk without refusal."
-- The length is n, rest are the bytes behind it: the kind byte, the body, and whatever follows.
abbrev pub sized : ℕ → List ℕ → ℕ → Step
sized n rest at =
    pick (either (ltb n 2) (ltb 170 n)) (malformed at)
    (pick (ltb (length rest) n) short (step_of (decode n (get_or rest 0 0) (take (n - 1) (drop 1 rest))) at (at + 2 + n)))

-- left are the bytes from the place on
unfoldable pub step_on : List ℕ → ℕ → Step
step_on left at = pick (empty_b left) end (pick (ltb (length left) 2) short (sized (from_be (take 2 left)) (drop 2 left) at))

abbrev pub step_at : List ℕ → ℕ → Step
step_at j at = step_on (drop at j) at
