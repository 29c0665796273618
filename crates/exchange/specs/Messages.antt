-- A message as the code reads it: its frame first, then its numbers, and its stamps are judged last.
use Rattle.std.specs.Prelude.{ℕ, ◌+◌, ◌*◌, ◌-◌, ◌≤◌, ◌≡◌, Bool, List, length, take, drop, get_or, leb, eqb}
use Rattle.model.specs.Lists.{both}
use Rattle.model.specs.Bytes.{from_be, column}
use Rattle.journal.specs.declared.walk.GossipHead.{GossipHead}

-- one whole record of kind 2 and nothing else, of at most sixteen stamps, whatever they are
unfoldable pub framed_b : List ℕ → Bool
framed_b bytes =
    both (leb 20 (length bytes))
    (both (eqb (from_be (take 2 bytes)) (length bytes - 2))
    (both (eqb (get_or bytes 2 0) 2)
    (both (leb (get_or bytes 19 0) 16)
    (eqb (length bytes) (20 + 8 * get_or bytes 19 0)))))

-- what is read of bytes that have a frame: the head, and the stamps at a list's front
pub record Spoken (bytes : List ℕ) (h : GossipHead) (stamps : List ℕ) : Type 0 where
  pub told : h ≡ record { prev = from_be (take 8 (drop 3 bytes)); curr = from_be (take 8 (drop 11 bytes)); count = get_or bytes 19 0 }
  pub fits : h.count ≤ length stamps
  pub holds : take h.count stamps ≡ column 8 8 h.count (drop 20 bytes)
