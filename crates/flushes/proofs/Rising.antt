-- The due snapshots are some of the known ones, in their order: where those ascend, so do they.
use Prim.Native.Nat.{ℕ}
use mathlib.Core.Path.{◌≡◌, refl}
use mathlib.Core.Bool.{true}
use mathlib.Core.List.{List, [], ◌∷◌}
use native.Mathlib.Omega.{arith}
use borrow.Author.Tests.{lt-ltb}
use Rattle.model.specs.Lists.{rising_from}
use Rattle.model.specs.Store.{Store}
use Rattle.model.specs.Changes.{due_b, dues}
use Rattle.tables.proofs.Cases.{by_test}
use Rattle.tables.proofs.Rising.{first_beyond, rest_rises, rises_low}

pub dues_rising : (st : Store) (p lo : ℕ) (ns : List ℕ) → rising_from lo ns ≡ true → rising_from lo (dues st p ns) ≡ true
dues_rising st p lo [] a = refl
dues_rising st p lo (s ∷ ns) a =
    let f = first_beyond lo s ns a in
    let ih = dues_rising st p s ns (rest_rises lo s ns a) in
    by_test (due_b st p s ns) (λ e. rw (e, lt-ltb lo s f) ih) (λ e. rw e (rises_low s lo (dues st p ns) ih (omega arith)))
