-- The Shape test of a call, and what a change that passes it is known by.
use Prim.Native.Nat.{ℕ, ◌≤◌}
use mathlib.Core.Path.{◌≡◌, refl, sym}
use mathlib.Core.Bool.{Bool, true, false}
use mathlib.Core.List.{List}
use native.Mathlib.Omega.{arith}
use lib.ListN.{length}
use lib.Dec.{leb}
use borrow.Author.Tests.{leb-true}
use Rattle.model.specs.Lists.{both, rising_from}
use Rattle.model.specs.Judgement.{stamps_shaped}
use Rattle.model.specs.Calls.{journal_shaped}
use Rattle.tables.proofs.Cases.{clash}

pub both_split : (a b : Bool) → both a b ≡ true → (a ≡ true) × (b ≡ true)
both_split true b e = (refl, e)
both_split false b e = clash (sym e)

-- ---- three tests: the arguments make a change, the journal is in shape, the change is
pub shape_first : {a : Bool} (b s : Bool) → a ≡ false → both (both a b) s ≡ false
shape_first b s e = rw e

pub shape_second : {a b : Bool} (s : Bool) → a ≡ true → b ≡ false → both (both a b) s ≡ false
shape_second s e f = rw (e, f)

pub shape_third : {a b s r : Bool} → a ≡ true → b ≡ true → s ≡ r → both (both a b) s ≡ r
shape_third e f g = rw (e, f) g

pub record Formed (good : Bool) (used : ℕ) (shape : Bool) : Type 0 where
  pub makes : good ≡ true
  pub placed : used ≤ 65535
  pub shaped : shape ≡ true

pub formed : (good : Bool) (j : List ℕ) (used : ℕ) (shape : Bool) → both (both good (journal_shaped j used)) shape ≡ true → Formed good used shape
formed good j used shape e =
    let a = both_split (both good (journal_shaped j used)) shape e in
    let b = both_split good (journal_shaped j used) a.0 in
    let c = both_split (leb (length j) 65535) (leb used (length j)) b.1 in
    let m = leb-true (length j) 65535 c.0 in
    let n = leb-true used (length j) c.1 in
    record { makes = b.0; placed = omega arith; shaped = a.1 }

-- ---- stamps in shape are few, and ascend
pub stamps_short : (prev curr : ℕ) (stamps : List ℕ) → stamps_shaped prev curr stamps ≡ true → length stamps ≤ 16
unfolding stamps_shaped
stamps_short prev curr stamps e =
    let a = both_split (both (leb (length stamps) 16) (leb prev curr)) _ e in
    leb-true (length stamps) 16 (both_split (leb (length stamps) 16) _ a.0).0

pub stamps_rise : (prev curr : ℕ) (stamps : List ℕ) → stamps_shaped prev curr stamps ≡ true → rising_from prev stamps ≡ true
unfolding stamps_shaped
stamps_rise prev curr stamps e =
    let a = both_split (both (leb (length stamps) 16) (leb prev curr)) _ e in
    (both_split (rising_from prev stamps) _ a.1).0
