-- What a change's call promises: its answer, the store's contents, every byte of the journal and the place are the model's.
use Rattle.std.specs.Prelude.{ℕ, ◌≤◌, ◌<◌, ◌≡◌, true, false, List, length, eqb, Result, MatchResult}
use Rattle.model.specs.declared.Answer.{Answer}
use Rattle.model.specs.declared.Answer.TheVariants.{Done}
use Rattle.model.specs.declared.Verdict.{Verdict}
use Rattle.model.specs.declared.Verdict.TheVariants.{Accepted}
use Rattle.model.specs.Lists.{both, twice_b}
use Rattle.model.specs.Store.{Store}
use Rattle.model.specs.Changes.{Change}
use Rattle.model.specs.Judgement.{objects_shaped}
use Rattle.model.specs.Calls.{Outcome, journal_shaped, reached, roomed}
use Rattle.journal.specs.declared.place.Place.{Place}

pub record Left (x : Outcome) (answer : Answer) (store : Store) (journal : List ℕ) (place : ℕ) : Type 0 where
  pub answered : answer ≡ x.answer
  pub contains : store ≡ x.store
  pub journal_is : journal ≡ x.journal
  pub place_is : place ≡ x.place

-- the same of a change that is made, with the place behind its record, or refused with an answer, at the place where it was called
abbrev pub Made : Outcome → Result Place Answer → Store → List ℕ → ℕ → Type 0
Made x r store journal used = MatchResult r (λ p. Left x (Done p.at) store journal p.at) (λ a. Left x a store journal used)

-- a verdict with the journal's room: a yes, and the record fits, or the answer that says what is in the way
abbrev pub Settled : {A : Type 0} → Verdict → List ℕ → ℕ → Change → Result A Answer → Type 0
Settled v j used c r =
    MatchResult r
    (λ _. (v ≡ Accepted) × (reached used c ≤ length j))
    (λ a. (a ≡ roomed v j used c) × (v ≡ Accepted → length j < reached used c))

-- a commit's lists and the journal have a shape that they can have, and no object is named twice
pub record Formed (os vs j : List ℕ) (used : ℕ) : Type 0 where
  pub shaped : both (both (eqb (length os) (length vs)) (journal_shaped j used)) (objects_shaped os) ≡ true
  pub once : twice_b os ≡ false
