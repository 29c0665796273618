-- A course that computes: the first message is lost, the coordinator is started again, the second message meets a Gap, the repository
-- asks, the reply closes it, and the lost message comes late.
use Prim.Native.Nat.{ℕ}
use mathlib.Core.Path.{◌≡◌, refl}
use mathlib.Core.List.{List, [], ◌∷◌}
use lib.ListN.{length, replicate}
use Rattle.model.specs.declared.Answer.TheVariants.{Done, Nothing}
use Rattle.model.specs.Store.{fresh}
use Rattle.model.specs.Damage.{overfull, misnumbered, doubled, misordered, damaged}
use Rattle.model.specs.Changes.{gossip_store}
use Rattle.model.specs.Judgement.{stamps_shaped, against, judge_gossip}
use Rattle.model.specs.Records.{encode, decode, step_on}
use Rattle.model.specs.Calls.{written, reached, answer_to, change}
use Rattle.model.specs.Coordinator.{fresh_coordinator, coordinator_damaged, grant_answer, grant, message_for, message_answer, message}
use Rattle.model.specs.CoordinatorBytes.{coordinator_bytes, restart_coordinator}
use Rattle.model.specs.Exchange.{request_bytes, ask, request_in, serve, hear}
use Rattle.history.specs.Worlds.{World, begin, Act, grants, writes, asks, serves, hears, starts_again, hearing, course}

abbrev paper : List ℕ
paper = replicate 148 0

abbrev opening : List Act
opening = grants 1 5 ∷ writes 0 300 paper ∷ starts_again ∷ grants 2 0 ∷ writes 300 600 paper ∷ []

abbrev closing : List Act
closing = hears 1 ∷ asks 600 paper ∷ serves 0 paper ∷ hears 2 ∷ []

abbrev after : List Act → World
after es = course (begin paper) es

abbrev lost : List ℕ
lost = 0 ∷ 26 ∷ 2 ∷ 0 ∷ 0 ∷ 0 ∷ 0 ∷ 0 ∷ 0 ∷ 0 ∷ 0 ∷ 0 ∷ 0 ∷ 0 ∷ 0 ∷ 0 ∷ 0 ∷ 1 ∷ 44 ∷ 1 ∷ 0 ∷ 0 ∷ 0 ∷ 0 ∷ 0 ∷ 0 ∷ 1 ∷ 5 ∷ []

-- what is known in the end
pub meeting : ((course (after opening) closing).machine.store.snapshots ≡ 261 ∷ 512 ∷ []) × ((course (after opening) closing).machine.store.horizon ≡ 600)
    × ((course (after opening) closing).coordinator.sent ≡ 600) × (length (course (after opening) closing).messages ≡ 3)
unfolding fresh overfull misnumbered doubled misordered damaged gossip_store stamps_shaped against judge_gossip encode decode step_on written reached answer_to change fresh_coordinator coordinator_damaged grant_answer grant message_for message_answer message coordinator_bytes restart_coordinator request_bytes ask request_in serve hear
meeting = (refl, refl, refl, refl)

-- the lost message on the fresh repository, and when it comes late
pub late : ((hearing (after opening).machine lost).answer ≡ Done 29) × ((hearing (course (after opening) closing).machine lost).answer ≡ Nothing 37)
unfolding fresh overfull misnumbered doubled misordered damaged gossip_store stamps_shaped against judge_gossip encode decode step_on written reached answer_to change fresh_coordinator coordinator_damaged grant_answer grant message_for message_answer message coordinator_bytes restart_coordinator request_bytes ask request_in serve hear
late = (refl, refl)
