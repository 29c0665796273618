-- Document 02, request [1]: what is claimed of the bytes that a coordinator's state is kept as, and of the record of kind 4.
use Rattle.std.specs.Prelude.{ℕ, ◌+◌, ◌*◌, ◌^◌, ◌<◌, ◌≤◌, ◌≡◌, false, List, [], ◌++◌, length, take}
use Rattle.model.specs.declared.Answer.TheVariants.{Done}
use Rattle.model.specs.Answers.{code_of}
use Rattle.model.specs.Records.{malformed, step_on}
use Rattle.model.specs.Coordinator.{Coordinator, fresh_coordinator, coordinator_damaged}
use Rattle.model.specs.CoordinatorBytes.{coordinator_bytes, keep_coordinator, RestartedCoordinator, restart_coordinator}
use Rattle.model.specs.Exchange.{request_bytes, request, request_in}
use Rattle.history.specs.Words.{Below, Bytes}
use Rattle.history.specs.Demands.{NotDone}

-- every number of the coordinator fits a u64
abbrev pub CoordinatorWords : Coordinator → Type 0
CoordinatorWords k = (k.sent < 2 ^ 64) × Below (2 ^ 64) k.granted

-- a restart that is Done with the number of bytes, and the coordinator as it was
abbrev pub started_again : Coordinator → RestartedCoordinator
started_again k = record { answer = Done (length (coordinator_bytes k)); coordinator = k }

pub record StateBytes : Type 0 where
  -- version, sent, count and stamps, each of them a byte
  pub size : (k : Coordinator) → length (coordinator_bytes k) ≡ 10 + 8 * length k.granted
  pub most : (k : Coordinator) → coordinator_damaged k ≡ false → length (coordinator_bytes k) ≤ 522
  pub bytes : (k : Coordinator) → Bytes (coordinator_bytes k)
  -- kept in a buffer of 522 bytes or more, they stand at its front
  pub keeps : (k : Coordinator) (buffer : List ℕ) → coordinator_damaged k ≡ false → 522 ≤ length buffer
      → ((keep_coordinator k buffer).answer ≡ Done (length (coordinator_bytes k)))
      × (take (length (coordinator_bytes k)) (keep_coordinator k buffer).buffer ≡ coordinator_bytes k)
  pub reads_back : (k : Coordinator) → coordinator_damaged k ≡ false → CoordinatorWords k → restart_coordinator (coordinator_bytes k) ≡ started_again k
  -- bytes that are accepted are those of the coordinator that they leave, so no two of them are taken for the same state. No bytes at
  -- all are fresh's second form
  pub one_encoding : (bytes : List ℕ) → Bytes bytes → 0 < length bytes → code_of (restart_coordinator bytes).answer ≡ 0
      → bytes ≡ coordinator_bytes (restart_coordinator bytes).coordinator
  pub none : restart_coordinator [] ≡ record { answer = Done 0; coordinator = fresh_coordinator }
  -- whatever the bytes are, what is left is never Damaged, and fresh where they are refused
  pub undamaged : (bytes : List ℕ) → coordinator_damaged (restart_coordinator bytes).coordinator ≡ false
  pub words : (bytes : List ℕ) → Bytes bytes → CoordinatorWords (restart_coordinator bytes).coordinator
  pub refused : (bytes : List ℕ) → NotDone (restart_coordinator bytes).answer → (restart_coordinator bytes).coordinator ≡ fresh_coordinator

-- the record of kind 4: it reads back, has one encoding, and is malformed at any place of a journal
pub record RequestRecord : Type 0 where
  pub reads_back : (from to : ℕ) → from < 2 ^ 64 → to < 2 ^ 64 → request_in (request_bytes from to) ≡ request from to
  pub one_encoding : (bytes : List ℕ) (from to : ℕ) → Bytes bytes → request_in bytes ≡ request from to → bytes ≡ request_bytes from to
  pub in_journal : (from to : ℕ) (rest : List ℕ) (at : ℕ) → step_on (request_bytes from to ++ rest) at ≡ malformed at
