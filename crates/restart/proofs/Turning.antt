-- A verdict, and what the writers leave, make the turn that the model makes.
use mathlib.Core.Path.{◌≡◌, refl, subst}
use mathlib.Core.Bool.{Bool, true, false}
use Rattle.model.specs.declared.Verdict.{Verdict}
use Rattle.model.specs.declared.Verdict.TheVariants.{Accepted, Idle, Refused}
use Rattle.model.specs.Store as model
use Rattle.model.specs.Changes.{Change}
use Rattle.tables.specs.declared.Store.{Store}
use Rattle.history.proofs.Laws.{clash}
use Rattle.restart.specs.Turns.{accepted_b, Carried}

pub was_accepted : (v : Verdict) → accepted_b v ≡ true → v ≡ Accepted
was_accepted Accepted h = refl
was_accepted Idle h = clash false h refl
was_accepted (Refused a) h = clash false h refl

-- the same turn of an equal change
pub carried_as : {st : model.Store} {c d : Change} {b : Bool} {s : Store} → Carried st c b s → c ≡ d → Carried st d b s
carried_as {st} {b = b} {s = s} t e = subst (λ (x : Change). Carried st x b s) e t
