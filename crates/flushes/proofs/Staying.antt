-- The past rows that stay, by the page's new mark alone; those that the entries leave; and with both the past after a flush.
use Rattle.std.specs.Prelude.{Some}
use Prim.Native.Nat.{ℕ, ◌<◌}
use mathlib.Core.Path.{◌≡◌, ap, ◌∙◌}
use mathlib.Core.Bool.{Bool}
use mathlib.Core.List.{List, ◌++◌, map}
use lib.ListN.{length, take, get_or, set}
use lib.Seq.{get_or-set_same}
use lib.Dec.{eqb}
use borrow.Author.Tests.{eqb-true}
use Rattle.model.specs.declared.Pending.{Pending}
use Rattle.model.specs.declared.Past.{Past}
use Rattle.model.specs.Lists.{both, kept}
use Rattle.model.specs.Store.{Store, Copy, page_of, mark}
use Rattle.model.specs.Changes.{of_page, buried, stays_b, copies_after, flush_store}
use Rattle.tables.specs.Rows.{pasts}
use Rattle.tables.specs.Lookups.{stays_by}
use Rattle.tables.proofs.Cases.{by_test}
use Rattle.tables.proofs.Keeping.{kept_append}
use Rattle.tables.proofs.Bridges.{kept_same}
use Rattle.flushes.specs.Parts.{stays_at, Holding}
use Rattle.flushes.proofs.Turns.{kept_mapped}

-- ---- marks of other pages are not looked at
module _ (p m h : ℕ) (known : List ℕ) where
  by_marks : (marks : List ℕ) → p < 32 → get_or marks p 0 ≡ m → (q : Past) → stays_by (Some p) h known marks q ≡ stays_at p m h known q
  by_marks marks l g q =
      by_test (eqb (page_of q.object) p) (λ e. rw (e, eqb-true (page_of q.object) p e, g)) (λ e. rw e)

  kept_marks : (marks : List ℕ) → p < 32 → get_or marks p 0 ≡ m → (qs : List Past) → kept (stays_by (Some p) h known marks) qs ≡ kept (stays_at p m h known) qs
  kept_marks marks l g qs = kept_same (stays_by (Some p) h known marks) (stays_at p m h known) (by_marks marks l g) qs

  -- a compaction by marks that hold the page's
  pub drop_held : (zeros : List ℕ) → p < length zeros → p < 32 → {past : List (List ℕ)} {r : ℕ} (qs : List Past)
      → take r (pasts past) ≡ kept (stays_by (Some p) h known (set zeros p m)) qs → r ≡ length (kept (stays_by (Some p) h known (set zeros p m)) qs)
      → Holding past r (kept (stays_at p m h known) qs)
  drop_held zeros b l qs e f =
      let k = kept_marks (set zeros p m) l (get_or-set_same zeros p m 0 b) qs in
      record { rows = e ∙ k; count = f ∙ ap length k }

  by_copies : (cs : List Copy) → m ≡ mark cs p → (q : Past) → stays_b h known cs p q ≡ stays_at p m h known q
  by_copies cs g q =
      by_test (eqb (page_of q.object) p) (λ e. rw (e, eqb-true (page_of q.object) p e, g)) (λ e. rw e)

-- ---- the past after a flush
module _ (st : Store) (p m : ℕ) where
  abbrev pub stay : Past → Bool
  stay = stays_at p m st.horizon st.snapshots

  abbrev pub leave : Pending → Bool
  leave e = both (of_page p e) (stay (buried st e))

  pub past_after : m ≡ mark (copies_after st p) p → (flush_store st p).past ≡ kept stay st.past ++ map (buried st) (kept leave st.pending)
  unfolding flush_store
  past_after e =
      let qs = map (buried st) (kept (of_page p) st.pending) in
      kept_same (stays_b st.horizon st.snapshots (copies_after st p) p) stay (by_copies p m st.horizon st.snapshots (copies_after st p) e) (st.past ++ qs)
      ∙ kept_append stay st.past qs
      ∙ ap (λ l. kept stay st.past ++ l) (kept_mapped stay (of_page p) (buried st) st.pending)
