-- What fresh and restart promise: the answer, the store's contents and the place are the model's.
use Rattle.std.specs.Prelude.{ℕ, ◌≡◌, Result, MatchResult}
use Rattle.model.specs.declared.Answer.{Answer}
use Rattle.model.specs.Store.{Store}
use Rattle.model.specs.declared.Answer.TheVariants.{Done}
use Rattle.model.specs.Restart.{Restarted, refused}
use Rattle.journal.specs.declared.place.Place.{Place}
use Rattle.tables.specs.declared.Store as lent

pub record Rebuilt (x : Restarted) (answer : Answer) (store : Store) (place : ℕ) : Type 0 where
  pub answered : answer ≡ x.answer
  pub contains : store ≡ x.store
  pub place_is : place ≡ x.place

-- the same of a journal that is read to a place, or refused, before the store is cleared for that
abbrev pub Resumes : Restarted → Result Place Answer → Store → Type 0
Resumes x r store = MatchResult r (λ p. Rebuilt x (Done p.at) store p.at) (λ a. x ≡ refused a)

-- the tables that a fresh start leaves word for word
pub record FreshKept (s s' : lent.Store) : Type 0 where
  pub pending_stays : s'.written.pending ≡ s.written.pending
  pub past_stays : s'.written.past ≡ s.written.past
  pub snapshots_stay : s'.snapshots ≡ s.snapshots
  pub copies_stay : s'.copies ≡ s.copies
  pub copied_stays : s'.copied ≡ s.copied
