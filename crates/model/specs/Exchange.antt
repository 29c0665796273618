-- Document 02, request [1]: the record of kind 4, and what is exchanged: a repository asks, a coordinator serves, a repository hears.
use Rattle.std.specs.Prelude.{ℕ, List, ◌++◌, length, take, drop, get_or, leb, eqb}
use Rattle.model.specs.declared.Answer.TheVariants.{Done, Damaged, Shape, Malformed}
use Rattle.model.specs.Lists.{both, pick}
use Rattle.model.specs.Bytes.{be, from_be, write_at}
use Rattle.model.specs.Store.{Store}
use Rattle.model.specs.Damage.{damaged}
use Rattle.model.specs.Changes.{Change, commit, gossip, flush}
use Rattle.model.specs.Reads.{Shown, shown}
use Rattle.model.specs.Records.{Step, end, short, malformed, whole, step_on}
use Rattle.model.specs.Calls.{Outcome, gossip_call}
use Rattle.model.specs.Coordinator.{Coordinator, coordinator_damaged, Messaged, message}

-- "a buffer under .. (kind 4: 19) bytes"
abbrev pub request_room : ℕ
request_room = 19

-- ---- "A repository that meets a Gap sends a new record, kind 4 (from u64, its H; to u64, the refused curr; length 17)"
unfoldable pub request_bytes : ℕ → ℕ → List ℕ
request_bytes from to = be 2 17 ++ (be 1 4 ++ (be 8 from ++ be 8 to))

unfoldable pub ask : Store → ℕ → List ℕ → Shown
ask st to buffer =
    shown
    (pick (damaged st) Damaged
    (pick (both (leb request_room (length buffer)) (leb st.horizon to)) (Done request_room)
    Shape))
    (write_at 0 (request_bytes st.horizon to) buffer) buffer

-- what the bytes ask for, where they are one whole record of kind 4 and nothing else
pub data Requested : Type 0 where
  no_request : Requested
  request : (from to : ℕ) → Requested

unfoldable pub request_in : List ℕ → Requested
request_in bytes =
    pick (both (eqb (length bytes) request_room) (both (eqb (from_be (take 2 bytes)) 17) (eqb (get_or bytes 2 0) 4)))
    (request (from_be (take 8 (drop 3 bytes))) (from_be (take 8 (drop 11 bytes))))
    no_request

-- "and gets the message for that prev and clock stamp": 2, 16, then as a message
abbrev pub served : Requested → Coordinator → List ℕ → Messaged
served no_request k buffer = record { answer = pick (coordinator_damaged k) Damaged (Malformed 0); coordinator = k; buffer = buffer }
served (request from to) k buffer = message k from to buffer

unfoldable pub serve : Coordinator → List ℕ → List ℕ → Messaged
serve k bytes buffer = served (request_in bytes) k buffer

-- ---- the repository hears the bytes of a message: 2, 16 where they are not one whole record of kind 2 and nothing else, then as gossip
abbrev pub unheard : Store → List ℕ → ℕ → Outcome
unheard st j used = record { answer = pick (damaged st) Damaged (Malformed 0); store = st; journal = j; place = used }

abbrev pub heard_change : Change → Store → List ℕ → ℕ → Outcome
heard_change (commit t ws) st j used = unheard st j used
heard_change (gossip prev curr stamps) st j used = gossip_call st j used prev curr stamps
heard_change (flush p) st j used = unheard st j used

abbrev pub heard_step : Step → ℕ → Store → List ℕ → ℕ → Outcome
heard_step end n st j used = unheard st j used
heard_step short n st j used = unheard st j used
heard_step (malformed offset) n st j used = unheard st j used
heard_step (whole c next) n st j used = pick (eqb next n) (heard_change c st j used) (unheard st j used)

unfoldable pub hear : Store → List ℕ → ℕ → List ℕ → Outcome
hear st j used bytes = heard_step (step_on bytes 0) (length bytes) st j used
