-- Document 01, "Calls" and "The journal": fresh and restart.
use Rattle.std.specs.Prelude.{ℕ, zero, suc, List, [], ◌∷◌, length, ltb, eqb}
use Rattle.model.specs.declared.Answer.{Answer}
use Rattle.model.specs.declared.Answer.TheVariants.{Done, Shape, Version, Malformed, Contradiction}
use Rattle.model.specs.declared.Verdict.{Verdict}
use Rattle.model.specs.declared.Verdict.TheVariants.{Accepted, Idle, Refused}
use Rattle.model.specs.Limits.{most_journal}
use Rattle.model.specs.Lists.{pick}
use Rattle.model.specs.Store.{Store, fresh}
use Rattle.model.specs.Changes.{Change, after}
use Rattle.model.specs.Judgement.{judge}
use Rattle.model.specs.Records.{Step, end, short, malformed, whole, step_at}
use Rattle.model.specs.Calls.{version}

pub record Restarted : Type 0 where
  pub answer : Answer
  pub store : Store
  pub place : ℕ

-- "its number is the next place"
abbrev pub resumed : Store → ℕ → Restarted
resumed st at = record { answer = Done at; store = st; place = at }

-- "a refused restart leaves a fresh store"
abbrev pub refused : Answer → Restarted
refused a = record { answer = a; store = fresh; place = 0 }

-- "A well-formed record that the rebuilt store answers with anything but 0 is a contradiction." A rebuilt store is never
-- Damaged, and "journal room plays no part in restart", so the verdict decides; more is the rest of the walk
abbrev pub admitted : Verdict → ℕ → Restarted → Restarted
admitted Accepted at more = more
admitted Idle at more = refused (Contradiction at)
admitted (Refused a) at more = refused (Contradiction at)

-- one step of the walk, at a place
abbrev pub stepped : Step → ℕ → Store → (Change → ℕ → Restarted) → Restarted
stepped end at st more = resumed st at
stepped short at st more = resumed st at
stepped (malformed offset) at st more = refused (Malformed offset)
stepped (whole c next) at st more = admitted (judge st c) at (more c next)

-- the walk from a place, with the store rebuilt so far; each record takes bytes, so the journal's length is fuel enough
unfoldable pub walk : ℕ → List ℕ → ℕ → Store → Restarted
walk zero j at st = resumed st at
walk (suc n) j at st = stepped (step_at j at) at st (λ c next. walk n j next (after st c))

-- "Fresh gives the fresh store and the place 0"
unfoldable pub fresh_start : Restarted
fresh_start = resumed fresh 0

-- "It takes an empty journal as a fresh store." Then 15, then 16 or 17 at the first bad record
abbrev pub versioned : List ℕ → Restarted
versioned [] = fresh_start
versioned (v ∷ rest) = pick (eqb v version) (walk (length (v ∷ rest)) (v ∷ rest) 1 fresh) (refused (Version v))

-- Restart: 3, 15, then 16 or 17
unfoldable pub restart : List ℕ → Restarted
restart j = pick (ltb most_journal (length j)) (refused Shape) (versioned j)
