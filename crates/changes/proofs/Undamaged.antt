-- What an undamaged store gives: counts within them, copies of pages in range, one entry an object, and known snapshots that ascend up to the horizon. And damage where
-- there are no entries.
use Prim.Native.Nat.{ℕ}
use mathlib.Core.Path.{◌≡◌, refl, sym, ◌∙◌}
use mathlib.Core.Bool.{Bool, true, false, not}
use mathlib.Core.List.{List, [], ◌∷◌, map}
use native.Mathlib.Omega.{arith}
use lib.ListN.{take}
use lib.Dec.{ltb, leb}
use borrow.Author.Tests.{not-false, le-leb, ltb-false}
use Rattle.model.specs.Lists.{either, any_b, all_b, twice_b, rising_from}
use Rattle.model.specs.Damage.{damaged, overfull, misnumbered, doubled, misordered}
use Rattle.tables.specs.declared.Store.{Store}
use Rattle.tables.specs.Rows.{pending_of, pendings, copy_heads, copies_of}
use Rattle.tables.specs.Contents.{stored, Counted}
use Rattle.tables.proofs.Bridges.{pages_in}
use Rattle.tables.proofs.Cases.{by_test, clash}
use Rattle.tables.proofs.Copies.{no_copy}
use Rattle.tables.proofs.Fronts.{any_front, twice_front, rising_front}
use Rattle.damage.specs.Sifted.{Sifted}
use Rattle.damage.proofs.Laws.{over_count, counted, damaged_over, lone}

either_none : (a b : Bool) → either a b ≡ false → (a ≡ false) × (b ≡ false)
either_none true b e = clash e
either_none false b e = (refl, e)

pub record Sound (s : Store) : Type 0 where
  pub counted : Counted s.heads
  pub pages_in : all_b (λ c. ltb c.page 32) (take s.heads.copies (copy_heads s.copies)) ≡ true
  pub single : twice_b (map (λ e. e.object) (take s.heads.pending (pendings s.written.pending))) ≡ false
  pub rising : rising_from 0 (take s.heads.snapshots s.snapshots) ≡ true
  pub known : all_b (λ x. leb x s.heads.horizon) (take s.heads.snapshots s.snapshots) ≡ true

none_beyond : (h : ℕ) (l : List ℕ) → any_b (ltb h) l ≡ false → all_b (λ x. leb x h) l ≡ true
none_beyond h [] e = refl
none_beyond h (x ∷ xs) e =
    let ih = none_beyond h xs in
    by_test (ltb h x) (λ t. clash (rw t at e)) (λ t. rw (le-leb x h (ltb-false h x t)) (ih (rw t at e)))

pub sound : (s : Store) → damaged (stored s) ≡ false → Sound s
unfolding damaged misnumbered doubled misordered
sound s e =
    let h = s.heads in
    let a = (either_none (overfull (stored s)) _ e).1 in
    let b = either_none (misnumbered (stored s)) _ a in
    let n = either_none (any_b (λ e. leb 512 e.object) (stored s).pending) _ b.0 in
    let p = either_none (any_b (λ q. leb 512 q.object) (stored s).past) _ n.1 in
    let c = either_none (doubled (stored s)) _ b.1 in
    let d = either_none (not (rising_from 0 (stored s).snapshots)) _ c.1 in
    record {
      counted =
          by_test (over_count h)
          (λ t. clash (damaged_over s.written.disk s.written.dated s.written.pending s.written.past s.snapshots s.copies s.copied h t ∙ e))
          (λ t. counted h t);
      pages_in = pages_in h.copies (copy_heads s.copies) s.copied (any_front no_copy (λ c. leb 32 c.page) h.copies (copies_of (copy_heads s.copies) s.copied) p.1);
      single = twice_front (pending_of []) (λ e. e.object) h.pending (pendings s.written.pending) c.0;
      rising = rising_front 0 h.snapshots s.snapshots (not-false (rising_from 0 (stored s).snapshots) d.0);
      known = none_beyond h.horizon (take h.snapshots s.snapshots) (any_front 0 (ltb h.horizon) h.snapshots s.snapshots d.1);
    }

-- without entries the tests of the ranges are all there are
pub none_damaged : (s : Store) {out : Bool} → Sifted out s → s.heads.pending ≡ 0 → damaged (stored s) ≡ out
none_damaged s {out} f e =
    by_test out
    (λ t. f.hit t ∙ sym t)
    (λ t. f.left t ∙ lone s.heads.pending (pendings s.written.pending) (omega arith) ∙ sym t)
