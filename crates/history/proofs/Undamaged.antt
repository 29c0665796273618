-- A store whose tables are whole and within their limits is not Damaged.
use Prim.Native.Nat.{ℕ, ◌≤◌, ◌<◌}
use mathlib.Core.Path.{◌≡◌, refl, ap}
use mathlib.Core.Bool.{false, not}
use mathlib.Core.List.{List, [], ◌∷◌, map}
use lib.ListN.{length}
use lib.Dec.{ltb, leb, eqb}
use borrow.Author.Tests.{le-ltb, lt-leb}
use Rattle.model.specs.declared.Pending.{Pending}
use Rattle.model.specs.Lists.{elem_b, twice_b}
use Rattle.model.specs.Store.{Store, none, some, lookup}
use Rattle.model.specs.Damage.{overfull, misnumbered, doubled, misordered, damaged}
use Rattle.history.proofs.Laws.{by_test, neither}
use Rattle.history.proofs.Lists.{all_map, none_any, true_rising}
use Rattle.history.proofs.Invariant.{Single, Whole, Fits}
use Rattle.history.proofs.Entries.{no_some}

-- one entry an object: no object is named twice
unnamed : (o : ℕ) (es : List Pending) → lookup o es ≡ none → elem_b o (map (λ e. e.object) es) ≡ false
unnamed o [] h = refl
unnamed o (e ∷ es) h =
    by_test (eqb e.object o) (λ q. no_some e (some e) (rw q at h) refl) (λ q. neither q (unnamed o es (rw q at h)))

once : (es : List Pending) → Single es → twice_b (map (λ e. e.object) es) ≡ false
once [] h = refl
once (e ∷ es) h = neither (unnamed e.object es h.0) (once es h.1)

module _ (st : Store) (a : Whole st) where
  not_misnumbered : misnumbered st ≡ false
  unfolding misnumbered
  not_misnumbered =
      neither
      (none_any (λ e. leb 512 e.object) st.pending (all_map (λ e (l : e.object < 512). lt-leb 512 e.object l) st.pending a.pending_objects))
      (neither
      (none_any (λ q. leb 512 q.object) st.past (all_map (λ q (l : q.object < 512). lt-leb 512 q.object l) st.past a.past_objects))
      (none_any (λ c. leb 32 c.page) st.copies (all_map (λ c (l : c.page < 32). lt-leb 32 c.page l) st.copies a.copy_pages)))

  not_doubled : doubled st ≡ false
  unfolding doubled
  not_doubled = once st.pending a.single

  not_misordered : misordered st ≡ false
  unfolding misordered
  not_misordered =
      neither (ap not (true_rising 0 st.snapshots a.positive a.rising))
      (none_any (ltb st.horizon) st.snapshots (all_map (λ s (l : s ≤ st.horizon). le-ltb st.horizon s l) st.snapshots a.known))

not_overfull : (st : Store) → Fits st → overfull st ≡ false
unfolding overfull
not_overfull st f =
    neither (le-ltb 128 (length st.pending) f.pending_room)
    (neither (le-ltb 256 (length st.past) f.past_room)
    (neither (le-ltb 64 (length st.snapshots) f.snapshot_room) (le-ltb 128 (length st.copies) f.copy_room)))

pub undamaged : (st : Store) → Whole st → Fits st → damaged st ≡ false
unfolding damaged
undamaged st a f = neither (not_overfull st f) (neither (not_misnumbered st a) (neither (not_doubled st a) (not_misordered st a)))
