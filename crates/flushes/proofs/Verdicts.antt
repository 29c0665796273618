-- The verdict by counts: the tests that the code makes in turn, and that they are the model's.
use Prim.Native.Nat.{ℕ, ◌+◌, ◌-◌, ◌≤◌}
use mathlib.Core.Path.{◌≡◌, refl, sym}
use mathlib.Core.List.{List, [], ◌∷◌}
use native.Mathlib.Omega.{arith}
use lib.ListN.{length, length-append, length-map}
use lib.Dec.{eqb}
use borrow.Author.Tests.{ne_eqb, le-ltb}
use Rattle.model.specs.declared.Verdict.TheVariants.{Accepted}
use Rattle.model.specs.Lists.{both, kept, empty_b}
use Rattle.model.specs.Store.{Store}
use Rattle.model.specs.Changes.{dues, of_page, copies_after, flush_store}
use Rattle.model.specs.Judgement.{judge_flush}
use Rattle.flushes.specs.Parts.{verdict_by}

pub say_accepted : (entries dues copies rows : ℕ) → (entries + dues ≡ 0 → ⊥) → copies ≤ 128 → dues ≤ 128 - copies → rows ≤ 256 → Accepted ≡ verdict_by entries dues copies rows
say_accepted entries dues copies rows e b l r =
    let fits : copies + dues ≤ 128 = omega arith in
    rw (ne_eqb (entries + dues) 0 e, le-ltb 128 (copies + dues) fits, le-ltb 256 rows r)

-- ---- the model's verdict
empty_count : {A B : Type 0} (l : List A) (m : List B) → both (empty_b l) (empty_b m) ≡ eqb (length l + length m) 0
empty_count [] [] = refl
empty_count [] (y ∷ ys) = sym (ne_eqb (0 + length (y ∷ ys)) 0 (λ e. omega arith))
empty_count (x ∷ xs) m = sym (ne_eqb (length (x ∷ xs) + length m) 0 (λ e. omega arith))

pub judged : (st : Store) (p : ℕ)
    → judge_flush st p ≡ verdict_by (length (kept (of_page p) st.pending)) (length (dues st p st.snapshots)) (length st.copies) (length (flush_store st p).past)
unfolding judge_flush flush_store copies_after
judged st p = rw (empty_count (kept (of_page p) st.pending) (dues st p st.snapshots), length-append, length-map)
