-- What a struct that holds a whole store gives each replay, and that an accepted record leaves such a struct again.
use Prim.Native.Nat.{ℕ, zero, suc, ◌≤◌, ◌<◌}
use mathlib.Core.Path.{◌≡◌, refl, ap, sym, ◌∙◌, subst}
use mathlib.Core.Bool.{true, false}
use mathlib.Core.List.{List, [], ◌∷◌, map}
use borrow.Author.Tests.{le-leb, lt-leb}
use lib.ListN.{length, take, get_or}
use lib.Dec.{ltb, leb, eqb}
use Rattle.model.specs.declared.Pending.{Pending}
use Rattle.model.specs.Lists.{any_b, all_b, elem_b, twice_b, rising_from}
use Rattle.model.specs.Store as model
use Rattle.model.specs.Store.{Copy, fresh, none, some, lookup}
use Rattle.model.specs.Changes.{Change}
use Rattle.model.specs.Judgement.{judge, well_formed}
use Rattle.tables.specs.declared.Store.{Store}
use Rattle.tables.specs.Rows.{pending_of, pendings, copy_heads, copies_of, up_to}
use Rattle.tables.specs.Lookups.{Indexed}
use Rattle.tables.specs.Contents.{stored, Counted}
use Rattle.tables.proofs.Bridges.{pages_in}
use Rattle.tables.proofs.Copies.{no_copy}
use Rattle.tables.proofs.Counts.{up_to_length}
use Rattle.tables.proofs.Fronts.{any_front, all_front, rising_front}
use Rattle.tables.proofs.Indexing.{index_start}
use Rattle.history.specs.Words.{All}
use Rattle.history.proofs.Laws.{by_test, both_yes, neither}
use Rattle.history.proofs.Lists.{true_rising}
use Rattle.history.proofs.Invariant.{Single, Whole}
use Rattle.history.proofs.Entries.{no_some}
use Rattle.history.proofs.Kept.{fresh_whole, keeps_whole}
use Rattle.restart.specs.Turns.{Held, Carried}
use Rattle.restart.proofs.Turning.{was_accepted}

-- ---- one entry an object: no object is named twice
unnamed : (o : ℕ) (es : List Pending) → lookup o es ≡ none → elem_b o (map (λ e. e.object) es) ≡ false
unnamed o [] h = refl
unnamed o (e ∷ es) h =
    by_test (eqb e.object o) (λ q. no_some e (some e) (rw q at h) refl) (λ q. neither q (unnamed o es (rw q at h)))

once : (es : List Pending) → Single es → twice_b (map (λ e. e.object) es) ≡ false
once [] h = refl
once (e ∷ es) h = neither (unnamed e.object es h.0) (once es h.1)

-- ---- what holds of the entries by their count holds of those that are there
all_taken : (P : Pending → Type 0) (d : Pending) (n : ℕ) (es : List Pending) → All P (up_to d n es) → All P (take n es)
all_taken P d zero es a = tt
all_taken P d (suc n) [] a = tt
all_taken P d (suc n) (e ∷ es) a = (a.0, all_taken P d n es a.1)

none_taken : (o : ℕ) (d : Pending) (n : ℕ) (es : List Pending) → lookup o (up_to d n es) ≡ none → lookup o (take n es) ≡ none
none_taken o d zero es h = refl
none_taken o d (suc n) [] h = refl
none_taken o d (suc n) (e ∷ es) h =
    let ih = none_taken o d n es in
    by_test (eqb e.object o) (λ q. no_some e (some e) (rw q at h) refl) (λ q. rw q (ih (rw q at h)))

single_taken : (d : Pending) (n : ℕ) (es : List Pending) → Single (up_to d n es) → Single (take n es)
single_taken d zero es s = tt
single_taken d (suc n) [] s = tt
single_taken d (suc n) (e ∷ es) s = (none_taken e.object d n es s.0, single_taken d n es s.1)

-- ---- the copies' pages, and the snapshots, each up to the horizon
no_page_beyond : (cs : List Copy) → All (λ c. c.page < 32) cs → any_b (λ c. leb 32 c.page) cs ≡ false
no_page_beyond [] a = refl
no_page_beyond (c ∷ cs) a = neither (lt-leb 32 c.page a.0) (no_page_beyond cs a.1)

up_to_horizon : (n : ℕ) (l : List ℕ) → All (λ s. s ≤ n) l → all_b (λ s. leb s n) l ≡ true
up_to_horizon n [] a = refl
up_to_horizon n (s ∷ l) a = both_yes (le-leb s n a.0) (up_to_horizon n l a.1)

-- ---- what the judges and the writers ask
pub record Sound (s : Store) : Type 0 where
  pub counted : Counted s.heads
  pub pages_in : all_b (λ c. ltb c.page 32) (take s.heads.copies (copy_heads s.copies)) ≡ true
  pub objects : All (λ e. e.object < 512) (take s.heads.pending (pendings s.written.pending))
  pub single : Single (take s.heads.pending (pendings s.written.pending))
  pub once : twice_b (map (λ e. e.object) (take s.heads.pending (pendings s.written.pending))) ≡ false
  pub rising : rising_from 0 (take s.heads.snapshots s.snapshots) ≡ true
  pub known : all_b (λ x. leb x s.heads.horizon) (take s.heads.snapshots s.snapshots) ≡ true

pub sound : (s : Store) → Held s → Sound s
sound s a =
    let h = s.heads in
    let w = a.whole in
    let es = pendings s.written.pending in
    record {
      counted = a.counted;
      pages_in = pages_in h.copies (copy_heads s.copies) s.copied (any_front no_copy (λ c. leb 32 c.page) h.copies (copies_of (copy_heads s.copies) s.copied) (no_page_beyond _ w.copy_pages));
      objects = all_taken (λ e. e.object < 512) (pending_of []) h.pending es w.pending_objects;
      single = single_taken (pending_of []) h.pending es w.single;
      once = once (take h.pending es) (single_taken (pending_of []) h.pending es w.single);
      rising = rising_front 0 h.snapshots s.snapshots (true_rising 0 (up_to 0 h.snapshots s.snapshots) w.positive w.rising);
      known = all_front 0 (λ x. leb x h.horizon) h.snapshots s.snapshots (up_to_horizon h.horizon (up_to 0 h.snapshots s.snapshots) w.known);
    }

-- ---- the fresh store, and the store after an accepted record
pub fresh_held : {s : Store} → stored s ≡ fresh → Counted s.heads → Held s
fresh_held e n = record { counted = n; whole = subst Whole (sym e) fresh_whole }

-- no entry: an index without a row is theirs
pub fresh_indexed : (n : ℕ) (es : List Pending) {index : List ℕ} → up_to (pending_of []) n es ≡ fresh.pending → length index ≡ 512 → ((o : ℕ) → get_or index o 128 ≡ 128)
    → Indexed index (take n es)
unfolding fresh
fresh_indexed n es {index} e l f =
    let z : 0 ≡ n = sym (ap length e) ∙ up_to_length (pending_of []) n es in
    subst (λ (k : ℕ). Indexed index (take k es)) z (index_start index es l f)

pub next_held : {st : model.Store} {c : Change} {s : Store} → Whole st → well_formed c ≡ true → Carried st c true s → Held s
next_held {st} {c} w f t = record {
  counted = t.counted;
  whole = subst Whole (sym t.turned.contains) (keeps_whole st c f (was_accepted (judge st c) (sym t.turned.says)) w);
}
