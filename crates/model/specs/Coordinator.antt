-- Document 02, request [1], "The coordinator's end": the coordinator's state, a grant, a message.
use Rattle.std.specs.Prelude.{ℕ, ◌+◌, ◌*◌, max, Bool, not, List, [], ◌∷◌, ◌++◌, length, take, get_or, ltb, leb}
use Rattle.model.specs.declared.Answer.{Answer}
use Rattle.model.specs.declared.Answer.TheVariants.{Done, Damaged, Shape, Late, SnapshotsFull}
use Rattle.model.specs.Limits.{most_stamps, ticks, last_tick}
use Rattle.model.specs.Lists.{both, either, pick, kept, rising_from}
use Rattle.model.specs.Answers.{is_done, number_of}
use Rattle.model.specs.Bytes.{write_at}
use Rattle.model.specs.Changes.{Change, gossip}
use Rattle.model.specs.Records.{encode}

-- "It keeps up to 64."
abbrev pub most_granted : ℕ
most_granted = 64

-- "a buffer under 148 .. bytes"
abbrev pub message_room : ℕ
message_room = 148

-- the stamps that it has granted, in their order, and the largest curr that it has sent
pub record Coordinator : Type 0 where
  pub granted : List ℕ
  pub sent : ℕ

unfoldable pub fresh_coordinator : Coordinator
fresh_coordinator = record { granted = []; sent = 0 }

-- "the largest stamp granted or sent", 0 if there is none
abbrev pub highest : List ℕ → ℕ
highest [] = 0
highest (s ∷ ss) = max s (highest ss)

abbrev pub top : Coordinator → ℕ
top k = max (highest k.granted) k.sent

-- 2, by document 01's sentence on later parts: "a count over its limit", "stamps .. not strictly ascending from 1 up"
unfoldable pub coordinator_damaged : Coordinator → Bool
coordinator_damaged k = either (ltb most_granted (length k.granted)) (not (rising_from 0 k.granted))

-- ---- "takes a tick and a node number and grants the snapshot 256 x tick + node": 2, 3, 5, 10
abbrev pub stamp_of : ℕ → ℕ → ℕ
stamp_of tick node = ticks * tick + node

abbrev pub grant_shaped : ℕ → ℕ → Bool
grant_shaped tick node = both (leb tick last_tick) (ltb node ticks)

unfoldable pub grant_answer : Coordinator → ℕ → ℕ → Answer
grant_answer k tick node =
    pick (coordinator_damaged k) Damaged
    (pick (grant_shaped tick node)
    (pick (leb (stamp_of tick node) (top k)) (Late (top k))
    (pick (leb most_granted (length k.granted)) SnapshotsFull
    (Done (stamp_of tick node))))
    Shape)

pub record Granting : Type 0 where
  pub answer : Answer
  pub coordinator : Coordinator

abbrev pub granting : Answer → Coordinator → Granting
granting a k =
    pick (is_done a)
    (record { answer = a; coordinator = record { granted = k.granted ++ (number_of a ∷ []); sent = k.sent } })
    (record { answer = a; coordinator = k })

unfoldable pub grant : Coordinator → ℕ → ℕ → Granting
grant k tick node = granting (grant_answer k tick node) k

-- ---- "Told a prev and a clock stamp, it writes a message with all its snapshots after prev up to that stamp"
abbrev pub stamps_in : ℕ → ℕ → List ℕ → List ℕ
stamps_in prev upto stamps = kept (λ s. both (ltb prev s) (leb s upto)) stamps

-- "curr is that stamp, or, with more than 16, the sixteenth"
abbrev pub curr_of : List ℕ → ℕ → ℕ
curr_of stamps clock = pick (ltb most_stamps (length stamps)) (get_or stamps 15 0) clock

abbrev pub curr_for : Coordinator → ℕ → ℕ → ℕ
curr_for k prev clock = curr_of (stamps_in prev clock k.granted) clock

unfoldable pub message_for : Coordinator → ℕ → ℕ → Change
message_for k prev clock = gossip prev (curr_for k prev clock) (take most_stamps (stamps_in prev clock k.granted))

-- 2, 3
unfoldable pub message_answer : Coordinator → ℕ → ℕ → List ℕ → Answer
message_answer k prev clock buffer =
    pick (coordinator_damaged k) Damaged
    (pick (both (leb message_room (length buffer)) (leb prev clock)) (Done (length (encode (message_for k prev clock))))
    Shape)

-- the message stands at the buffer's front; every other byte is as it was
pub record Messaged : Type 0 where
  pub answer : Answer
  pub coordinator : Coordinator
  pub buffer : List ℕ

abbrev pub messaged : Answer → Coordinator → ℕ → ℕ → List ℕ → Messaged
messaged a k prev clock buffer =
    pick (is_done a)
    (record {
      answer = a;
      coordinator = record { granted = k.granted; sent = max k.sent (curr_for k prev clock) };
      buffer = write_at 0 (encode (message_for k prev clock)) buffer;
    })
    (record { answer = a; coordinator = k; buffer = buffer })

unfoldable pub message : Coordinator → ℕ → ℕ → List ℕ → Messaged
message k prev clock buffer = messaged (message_answer k prev clock buffer) k prev clock buffer
