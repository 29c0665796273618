-- An object's number is its page and its slot: of the page's rows those with the slot are the object's.
use Prim.Native.Nat.{ℕ, ◌<◌}
use mathlib.Core.Path.{◌≡◌}
use mathlib.Core.Bool.{Bool}
use native.Mathlib.Omega.{arith}
use lib.Dec.{eqb}
use borrow.Author.Tests.{eqb-true, eqb-false, eq-eqb, ne_eqb}
use Rattle.model.specs.Lists.{both}
use Rattle.model.specs.Store.{page_of, slot_of, object_at}
use Rattle.tables.proofs.Cases.{by_test}

pub object_test : (o p k : ℕ) (b : Bool) → k < 16 → both (eqb (slot_of o) k) (both (eqb (page_of o) p) b) ≡ both (eqb o (object_at p k)) b
object_test o p k b h =
    by_test (eqb (slot_of o) k)
    (λ s.
    by_test (eqb (page_of o) p)
    (λ e. rw (s, e, eq-eqb o (object_at p k) (omega (arith, eqb-true (slot_of o) k s, eqb-true (page_of o) p e))))
    (λ e. rw (s, e, ne_eqb o (object_at p k) (λ z. eqb-false (page_of o) p e (omega arith)))))
    (λ s. rw (s, ne_eqb o (object_at p k) (λ z. eqb-false (slot_of o) k s (omega arith))))
