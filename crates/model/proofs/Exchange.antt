-- Document 02, request [1], in numbers: what the calls of the exchange answer and write, and what is kept of a coordinator.
use Prim.Native.Nat.{ℕ}
use mathlib.Core.Path.{◌≡◌, refl}
use mathlib.Core.List.{List, [], ◌∷◌}
use lib.ListN.{replicate, take}
use Rattle.model.specs.declared.Answer.TheVariants.{Done, Nothing, Damaged, Shape, Late, Gap, Version, Malformed}
use Rattle.model.specs.Store.{fresh}
use Rattle.model.specs.Damage.{overfull, misnumbered, doubled, misordered, damaged}
use Rattle.model.specs.Changes.{gossip, gossip_store}
use Rattle.model.specs.Judgement.{stamps_shaped, against, judge_gossip}
use Rattle.model.specs.Records.{encode, decode, step_on}
use Rattle.model.specs.Calls.{written, reached, answer_to, change}
use Rattle.model.specs.Coordinator.{Coordinator, fresh_coordinator, coordinator_damaged, grant_answer, grant, message_for, message_answer, message}
use Rattle.model.specs.CoordinatorBytes.{coordinator_bytes, keep_coordinator, restart_coordinator}
use Rattle.model.specs.Exchange.{request_bytes, ask, request, no_request, request_in, serve, hear}

abbrev paper : List ℕ
paper = replicate 148 7

abbrev seventeen : List ℕ
seventeen = 1 ∷ 2 ∷ 3 ∷ 4 ∷ 5 ∷ 6 ∷ 7 ∷ 8 ∷ 9 ∷ 10 ∷ 11 ∷ 12 ∷ 13 ∷ 14 ∷ 15 ∷ 16 ∷ 17 ∷ []

abbrev holding : List ℕ → ℕ → Coordinator
holding granted sent = record { granted = granted; sent = sent }

-- 256 x 1 + 5; not 0, not again, not up to what was sent; ranges; 64
pub grants : ((grant fresh_coordinator 0 0).answer ≡ Late 0) × ((grant fresh_coordinator 1 5).answer ≡ Done 261) × ((grant (holding (261 ∷ []) 600) 2 88).answer ≡ Late 600)
    × ((grant (holding (261 ∷ []) 600) 2 89).coordinator ≡ holding (261 ∷ 601 ∷ []) 600) × ((grant fresh_coordinator 72057594037927936 0).answer ≡ Shape)
    × ((grant fresh_coordinator 1 256).answer ≡ Shape) × ((grant (holding (261 ∷ []) 0) 1 5).answer ≡ Late 261)
unfolding fresh_coordinator coordinator_damaged grant_answer grant
grants = (refl, refl, refl, refl, refl, refl, refl)

-- all after prev up to the clock stamp; with more than 16, the sixteenth is curr
pub messages : (message_for (holding seventeen 0) 3 5 ≡ gossip 3 5 (4 ∷ 5 ∷ [])) × (message_for (holding seventeen 0) 0 20 ≡ gossip 0 16 (take 16 seventeen))
    × (message_for (holding seventeen 0) 0 16 ≡ gossip 0 16 (take 16 seventeen)) × (message_for (holding seventeen 0) 16 20 ≡ gossip 16 20 (17 ∷ []))
unfolding message_for
messages = (refl, refl, refl, refl)

-- the largest curr is kept; 3 for a clock stamp below prev and for 147 bytes; 20 + 8n bytes at the front, and no other
pub writes : ((message (holding seventeen 0) 0 20 paper).coordinator ≡ holding seventeen 16) × ((message (holding seventeen 99) 0 20 paper).coordinator ≡ holding seventeen 99)
    × ((message (holding [] 0) 5 5 paper).answer ≡ Done 20) × ((message (holding [] 0) 6 5 paper).answer ≡ Shape)
    × ((message (holding [] 0) 5 5 (replicate 147 7)).answer ≡ Shape) × ((message (holding seventeen 0) 0 20 paper).answer ≡ Done 148)
    × (take 22 (message (holding [] 0) 5 6 paper).buffer ≡ 0 ∷ 18 ∷ 2 ∷ 0 ∷ 0 ∷ 0 ∷ 0 ∷ 0 ∷ 0 ∷ 0 ∷ 5 ∷ 0 ∷ 0 ∷ 0 ∷ 0 ∷ 0 ∷ 0 ∷ 0 ∷ 6 ∷ 0 ∷ 7 ∷ 7 ∷ [])
unfolding coordinator_damaged encode message_for message_answer message
writes = (refl, refl, refl, refl, refl, refl, refl)

-- a request from H, and the reply to it
pub asks : (take 20 (ask fresh 600 paper).buffer ≡ 0 ∷ 17 ∷ 4 ∷ 0 ∷ 0 ∷ 0 ∷ 0 ∷ 0 ∷ 0 ∷ 0 ∷ 0 ∷ 0 ∷ 0 ∷ 0 ∷ 0 ∷ 0 ∷ 0 ∷ 2 ∷ 88 ∷ 7 ∷ [])
    × ((ask fresh 600 (replicate 18 7)).answer ≡ Shape) × (request_in (take 19 (ask fresh 600 paper).buffer) ≡ request 0 600)
    × (request_in (take 20 (ask fresh 600 paper).buffer) ≡ no_request) × (serve (holding seventeen 0) (request_bytes 5 20) paper ≡ message (holding seventeen 0) 5 20 paper)
    × ((serve (holding seventeen 0) (request_bytes 6 5) paper).answer ≡ Shape) × ((serve (holding seventeen 0) [] paper).answer ≡ Malformed 0)
unfolding fresh overfull misnumbered doubled misordered damaged coordinator_damaged encode message_for message_answer message request_bytes ask request_in serve
asks = (refl, refl, refl, refl, refl, refl, refl)

-- a message is heard as gossip; anything else is malformed
pub hears : ((hear fresh paper 0 (encode (gossip 0 9 (4 ∷ [])))).answer ≡ Done 29) × ((hear fresh paper 0 (encode (gossip 5 9 []))).answer ≡ Gap 0)
    × ((hear fresh paper 0 (encode (gossip 0 0 []))).answer ≡ Nothing 0) × ((hear fresh paper 0 (0 ∷ 2 ∷ 3 ∷ 4 ∷ [])).answer ≡ Malformed 0)
    × ((hear fresh paper 0 (request_bytes 0 5)).answer ≡ Malformed 0) × ((hear fresh paper 0 []).answer ≡ Malformed 0)
unfolding fresh overfull misnumbered doubled misordered damaged gossip_store stamps_shaped against judge_gossip encode decode step_on written reached answer_to change request_bytes hear
hears = (refl, refl, refl, refl, refl, refl)

-- the state's bytes; 3 for a buffer of 521
pub keeps : (coordinator_bytes (holding (1 ∷ 258 ∷ []) 5) ≡ 1 ∷ 0 ∷ 0 ∷ 0 ∷ 0 ∷ 0 ∷ 0 ∷ 0 ∷ 5 ∷ 2 ∷ 0 ∷ 0 ∷ 0 ∷ 0 ∷ 0 ∷ 0 ∷ 0 ∷ 1 ∷ 0 ∷ 0 ∷ 0 ∷ 0 ∷ 0 ∷ 0 ∷ 1 ∷ 2 ∷ [])
    × ((keep_coordinator (holding (1 ∷ 258 ∷ []) 5) (replicate 522 7)).answer ≡ Done 26) × ((keep_coordinator fresh_coordinator (replicate 521 7)).answer ≡ Shape)
    × ((keep_coordinator (holding (2 ∷ 1 ∷ []) 5) (replicate 522 7)).answer ≡ Damaged)
unfolding coordinator_damaged fresh_coordinator coordinator_bytes keep_coordinator
keeps = (refl, refl, refl, refl)

-- none is fresh; another version; no room for a count; a count that isn't that of the stamps; a stamp again
pub restarts : ((restart_coordinator []).answer ≡ Done 0) × ((restart_coordinator []).coordinator ≡ fresh_coordinator)
    × ((restart_coordinator (coordinator_bytes (holding (1 ∷ 258 ∷ []) 5))).answer ≡ Done 26)
    × ((restart_coordinator (coordinator_bytes (holding (1 ∷ 258 ∷ []) 5))).coordinator ≡ holding (1 ∷ 258 ∷ []) 5)
    × ((restart_coordinator (2 ∷ [])).answer ≡ Version 2) × ((restart_coordinator (1 ∷ [])).answer ≡ Malformed 1)
    × ((restart_coordinator (take 25 (coordinator_bytes (holding (1 ∷ 258 ∷ []) 5)))).answer ≡ Malformed 9)
    × ((restart_coordinator (coordinator_bytes (holding (0 ∷ []) 5))).answer ≡ Malformed 10)
    × ((restart_coordinator (coordinator_bytes (holding (7 ∷ 7 ∷ []) 5))).answer ≡ Malformed 18)
    × ((restart_coordinator (coordinator_bytes (holding (7 ∷ 7 ∷ []) 5))).coordinator ≡ fresh_coordinator)
unfolding fresh_coordinator coordinator_bytes restart_coordinator
restarts = (refl, refl, refl, refl, refl, refl, refl, refl, refl, refl)
