-- Document 02, request [1], "one fresh coordinator only": a coordinator that forgot what it granted would be another one. So its state
-- is kept as bytes, and it is started again from them.
use Rattle.std.specs.Prelude.{ℕ, suc, ◌+◌, ◌*◌, not, List, [], ◌∷◌, ◌++◌, length, take, drop, get_or, ltb, eqb}
use Rattle.model.specs.declared.Answer.{Answer}
use Rattle.model.specs.declared.Answer.TheVariants.{Done, Damaged, Shape, Version, Malformed}
use Rattle.model.specs.Lists.{either, pick, rising_from}
use Rattle.model.specs.Answers.{is_done}
use Rattle.model.specs.Bytes.{be, from_be, column, write_at}
use Rattle.model.specs.Records.{stamp_bytes}
use Rattle.model.specs.Reads.{Shown, shown}
use Rattle.model.specs.Calls.{version}
use Rattle.model.specs.Coordinator.{most_granted, Coordinator, fresh_coordinator, coordinator_damaged}

-- ---- the version byte, sent u64, count u8, the stamps u64 each
abbrev pub count_at : ℕ
count_at = 9

abbrev pub stamps_at : ℕ
stamps_at = 10

-- the bytes of a coordinator that holds n stamps
abbrev pub size_of : ℕ → ℕ
size_of n = stamps_at + 8 * n

unfoldable pub coordinator_bytes : Coordinator → List ℕ
coordinator_bytes k = version ∷ (be 8 k.sent ++ (be 1 (length k.granted) ++ stamp_bytes k.granted))

-- to keep it: 2, then 3 for a buffer under the 522 bytes of 64 stamps. They stand at the buffer's front; every other byte is as it was
unfoldable pub keep_coordinator : Coordinator → List ℕ → Shown
keep_coordinator k buffer =
    shown
    (pick (coordinator_damaged k) Damaged
    (pick (ltb (length buffer) (size_of most_granted)) Shape
    (Done (size_of (length k.granted)))))
    (write_at 0 (coordinator_bytes k) buffer) buffer

-- ---- the coordinator that bytes hold, and fresh where there are none
abbrev pub count_in : List ℕ → ℕ
count_in bytes = get_or bytes count_at 0

abbrev pub stamps_of : List ℕ → List ℕ
stamps_of bytes = column 8 8 (count_in bytes) (drop stamps_at bytes)

abbrev pub coordinator_in : List ℕ → Coordinator
coordinator_in bytes = record { granted = stamps_of bytes; sent = from_be (take 8 (drop 1 bytes)) }

-- how many stamps stand before the first that isn't beyond the one before it
abbrev pub risen : ℕ → List ℕ → ℕ
risen lo [] = 0
risen lo (s ∷ ss) = pick (ltb lo s) (suc (risen s ss)) 0

-- 15, then 16 at the first bad field: too short for what stands before the stamps, the count, a stamp. Else the length
abbrev pub restart_answer : List ℕ → Answer
restart_answer [] = Done 0
restart_answer (v ∷ rest) =
    let bytes = v ∷ rest in
    pick (eqb v version)
    (pick (ltb (length bytes) stamps_at) (Malformed 1)
    (pick (either (ltb most_granted (count_in bytes)) (not (eqb (length bytes) (size_of (count_in bytes))))) (Malformed count_at)
    (pick (rising_from 0 (stamps_of bytes)) (Done (length bytes))
    (Malformed (size_of (risen 0 (stamps_of bytes)))))))
    (Version v)

pub record RestartedCoordinator : Type 0 where
  pub answer : Answer
  pub coordinator : Coordinator

-- a refused restart leaves a fresh coordinator
abbrev pub restarted_coordinator : Answer → Coordinator → RestartedCoordinator
restarted_coordinator a k = record { answer = a; coordinator = pick (is_done a) k fresh_coordinator }

unfoldable pub restart_coordinator : List ℕ → RestartedCoordinator
restart_coordinator bytes = restarted_coordinator (restart_answer bytes) (coordinator_in bytes)
