-- The stamps ahead against the known snapshots ahead: heads that differ, heads that agree, and a list that has ended.
use Rattle.std.specs.Prelude.{Option, Some, None}
use Prim.Native.Nat.{ℕ}
use mathlib.Core.Path.{◌≡◌, refl, sym, ap, ◌∙◌}
use mathlib.Core.Bool.{Bool}
use mathlib.Core.List.{List, [], ◌∷◌}
use lib.ListN.{drop}
use lib.Dec.{ltb, leb}
use Rattle.model.specs.Lists.{both, kept}
use Rattle.model.specs.Judgement.{compared}
use Rattle.model.specs.Judgement as judgement
use Rattle.tables.proofs.Cases.{by_test}
use Rattle.gossips.specs.Promises.{differing_in, Told}

-- the stamps up to the bound from i on, and the bounds of a known snapshot that the message speaks of
abbrev pub ahead : ℕ → List ℕ → ℕ → List ℕ
ahead upto stamps i = kept (λ s. leb s upto) (drop i stamps)

abbrev pub in_bounds : ℕ → ℕ → ℕ → Bool
in_bounds prev upto s = both (ltb prev s) (leb s upto)

-- two tests at once keep what they keep in turn
kept_both : (f g : ℕ → Bool) (l : List ℕ) → kept (λ s. both (f s) (g s)) l ≡ kept g (kept f l)
kept_both f g [] = refl
kept_both f g (x ∷ xs) = let ih = kept_both f g xs in by_test (f x) (λ e. rw (e, ih)) (λ e. rw e ih)

-- the snapshots beyond prev stand from r on: those in the bounds are those of them up to the bound
pub heard_starts : (prev upto : ℕ) (known : List ℕ) (r : ℕ) → kept (ltb prev) known ≡ drop r known → ahead upto known r ≡ kept (in_bounds prev upto) known
heard_starts prev upto known r e = ap (kept (λ s. leb s upto)) (sym e) ∙ sym (kept_both (ltb prev) (λ s. leb s upto) known)

-- where no known snapshot is ahead, a stamp ahead is one too many; w is what the whole lists say
pub none_heard : (stamps : List ℕ) (upto i : ℕ) (x : Option ℕ) {ys : List ℕ} {w : judgement.Compared} → Told stamps upto i x → ys ≡ [] → compared (ahead upto stamps i) ys ≡ w → x ≡ differing_in w
none_heard stamps upto i None a b v = rw (← v, a, b)
none_heard stamps upto i (Some s) a b v = rw (← v, a, b)
