-- A past value is live, or stays, by the tests that the code makes in turn.
use Prim.Native.Nat.{ℕ}
use mathlib.Core.Path.{◌≡◌, ◌∙◌, sym, ap}
use mathlib.Core.Bool.{Bool, true, false, not}
use Rattle.std.specs.Prelude.{Option}
use mathlib.Core.List.{List}
use lib.ListN.{get_or}
use lib.Dec.{leb}
use Rattle.model.specs.declared.Past.{Past}
use Rattle.model.specs.Store.{Copy, mark, page_of, beyond_b, live_b}
use Rattle.tables.specs.Lookups.{last_before, wants_b, in_scope, stays_by}
use Rattle.tables.proofs.Known.{wanted_last, wants_none, wants_beyond}

module _ (h : ℕ) (known : List ℕ) (q : Past) where
  -- s is the last known snapshot before the row's end
  module _ (cs : List Copy) (s : ℕ) (l : s ≡ last_before known q.until) (e : beyond_b h q ≡ false) where
    live_last : wants_b s (mark cs (page_of q.object)) q ≡ live_b h known cs q
    live_last = rw (l, ← wanted_last known (mark cs (page_of q.object)) q, e)

    pub live_unwanted : wants_b s 0 q ≡ false → false ≡ live_b h known cs q
    live_unwanted w = sym (wants_none s (mark cs (page_of q.object)) q w) ∙ live_last

    pub live_archived : {b : Bool} → wants_b s 0 q ≡ true → b ≡ leb s (mark cs (page_of q.object)) → not b ≡ live_b h known cs q
    live_archived w f = ap not f ∙ sym (wants_beyond s (mark cs (page_of q.object)) q w) ∙ live_last

  module _ (scope : Option ℕ) (marks : List ℕ) where
    pub stays_last : (s m : ℕ) → s ≡ last_before known q.until → in_scope scope q ≡ true → beyond_b h q ≡ false → m ≡ get_or marks (page_of q.object) 0
        → wants_b s m q ≡ stays_by scope h known marks q
    stays_last s m l e f g = rw (l, ← wanted_last known m q, e, f, g)
