-- A commit by its two lists: what the Shape test tells of them where they pass it, and the change that they make.
use Prim.Native.Nat.{ℕ, ◌+◌, ◌*◌, ◌≤◌}
use mathlib.Core.Path.{◌≡◌, ◌∙◌}
use mathlib.Core.Bool.{Bool, true, false}
use mathlib.Core.List.{List}
use lib.ListN.{length}
use lib.Dec.{ltb, leb, eqb}
use borrow.Author.Tests.{leb-true, eqb-true}
use Rattle.model.specs.Lists.{both, all_b, twice_b}
use Rattle.model.specs.Store.{Store}
use Rattle.model.specs.Damage.{damaged}
use Rattle.model.specs.Changes.{commit, objects_of, paired}
use Rattle.model.specs.Judgement.{objects_shaped, shaped, twice}
use Rattle.model.specs.Records.{length_of}
use Rattle.model.specs.Calls.{journal_shaped}
use Rattle.rules.proofs.Laws.{shaped_low}
use Rattle.tables.proofs.Cases.{by_test}
use Rattle.journal.proofs.Places.{paired_length}
use Rattle.journal.proofs.Walks.{paired_objects}
use Rattle.changes.specs.Left.{Formed}
use Rattle.changes.proofs.Shapes.{both_split, formed}
use Rattle.changes.proofs.Outcomes.{Passed}

objects_short : (os : List ℕ) → objects_shaped os ≡ true → length os ≤ 16
unfolding objects_shaped
objects_short os e =
    let a = both_split (both (leb 1 (length os)) (leb (length os) 16)) _ e in
    leb-true (length os) 16 (both_split (leb 1 (length os)) _ a.0).1

-- the lists and the journal pass the Shape test
pub record Listed (os vs j : List ℕ) (used : ℕ) : Type 0 where
  pub tested : both (both (eqb (length os) (length vs)) (journal_shaped j used)) (objects_shaped os) ≡ true
  pub even : length os ≡ length vs
  pub short : length os ≤ 16
  pub in_range : all_b (λ o. ltb o 512) os ≡ true
  pub placed : used ≤ 65535

pub listed : (os vs j : List ℕ) (used : ℕ) → both (both (eqb (length os) (length vs)) (journal_shaped j used)) (objects_shaped os) ≡ true → Listed os vs j used
listed os vs j used e =
    let f = formed (eqb (length os) (length vs)) j used (objects_shaped os) e in
    record {
      tested = e;
      even = eqb-true (length os) (length vs) f.makes;
      short = objects_short os f.shaped;
      in_range = shaped_low os f.shaped;
      placed = f.placed;
    }

-- where they are of unequal number no test of the pairs counts
pub commit_formed : (os vs : List ℕ) (b : Bool) → both (both (eqb (length os) (length vs)) b) (objects_shaped (objects_of (paired os vs))) ≡ both (both (eqb (length os) (length vs)) b) (objects_shaped os)
commit_formed os vs b = by_test (eqb (length os) (length vs)) (λ e. rw (paired_objects os vs (eqb-true (length os) (length vs) e))) (λ e. rw e)

-- the change that they make is in shape too, and its other test is the list's
module _ {os vs j : List ℕ} {used : ℕ} (l : Listed os vs j used) (t : ℕ) where
  pub listed_formed : both (both (eqb (length os) (length vs)) (journal_shaped j used)) (shaped (commit t (paired os vs))) ≡ true
  listed_formed = commit_formed os vs (journal_shaped j used) ∙ l.tested

  pub listed_twice : twice (commit t (paired os vs)) ≡ twice_b os
  listed_twice = rw (paired_objects os vs l.even)

-- the lists of a commit that passed its two tests
module _ {os vs j : List ℕ} {used : ℕ} (f : Formed os vs j used) where
  pub formed_listed : Listed os vs j used
  formed_listed = listed os vs j used f.shaped

  module _ (t : ℕ) where
    pub formed_length : length_of (commit t (paired os vs)) ≡ 10 + 10 * length os
    formed_length = rw (paired_length os vs formed_listed.even)

    pub formed_passed : {st : Store} → damaged st ≡ false → Passed st j used (eqb (length os) (length vs)) (commit t (paired os vs))
    formed_passed w = record { whole = w; formed = listed_formed formed_listed t; once = listed_twice formed_listed t ∙ f.once }
