-- The disk after a flush; no flush alters a current value.
use Prim.Native.Nat.{ℕ, ◌<◌}
use mathlib.Core.Path.{◌≡◌}
use mathlib.Core.Bool.{false}
use native.Mathlib.Omega.{arith}
use lib.Dec.{eqb}
use borrow.Author.Tests.{eqb-true}
use Rattle.model.specs.declared.Pending.{Pending}
use Rattle.model.specs.Store.{Store, page_of, none, some, lookup, disk, current}
use Rattle.model.specs.Changes.{flush_store}
use Rattle.history.proofs.Laws.{by_test}
use Rattle.history.proofs.Invariant.{Whole}
use Rattle.history.proofs.Sound.{by_slot}
use Rattle.history.proofs.Entries.{gone, stayed, stored_away, stored_none, stored_some}

-- ---- the disk after a flush
module _ (o : ℕ) (st : Store) where
  pub disk_away : (p : ℕ) → eqb (page_of o) p ≡ false → disk (flush_store st p) o ≡ disk st o
  unfolding flush_store
  disk_away p n =
      rw (stored_away p (λ e. e.value) o st.pending st.values n, stored_away p (λ e. e.latest) o st.pending st.stamps n)

  pub disk_none : (p : ℕ) → lookup o st.pending ≡ none → disk (flush_store st p) o ≡ disk st o
  unfolding flush_store
  disk_none p f =
      rw (stored_none p (λ e. e.value) o st.pending st.values f, stored_none p (λ e. e.latest) o st.pending st.stamps f)

  pub disk_some : (e : Pending) → Whole st → o < 512 → lookup o st.pending ≡ some e
      → disk (flush_store st (page_of o)) o ≡ record { value = e.value; stamp = e.latest }
  unfolding flush_store
  disk_some e a b f =
      rw (
        stored_some (λ e. e.value) o st.pending st.values e a.single (omega (arith, a.values_size)) f,
        stored_some (λ e. e.latest) o st.pending st.stamps e a.single (omega (arith, a.stamps_size)) f,
      )

  -- no flush alters a current value
  pub current_away : (p : ℕ) → eqb (page_of o) p ≡ false → current (flush_store st p) o ≡ current st o
  unfolding flush_store
  current_away p n = rw (stayed o p st.pending n, disk_away p n)

  pub current_own : Whole st → o < 512 → current (flush_store st (page_of o)) o ≡ current st o
  unfolding flush_store
  current_own a b =
      rw (gone o st.pending)
      (by_slot (lookup o st.pending) (λ f. rw f (disk_none (page_of o) f)) (λ e f. rw f (disk_some e a b f)))

-- NO FLUSH ALTERS A CURRENT VALUE
pub flush_current : (o : ℕ) (st : Store) (p : ℕ) → Whole st → o < 512 → current (flush_store st p) o ≡ current st o
flush_current o st p a b =
    by_test (eqb (page_of o) p) (λ e. rw (← eqb-true (page_of o) p e) (current_own o st a b)) (λ e. current_away o st p e)
