-- What a call leaves, by the test that settles its answer: a refused call leaves all as it was, code 0 the changed store and the record.
use Prim.Native.Nat.{ℕ, ◌≤◌, ◌<◌}
use mathlib.Core.Path.{◌≡◌, refl, sym, subst}
use mathlib.Core.Bool.{Bool, true, false}
use mathlib.Core.List.{List}
use native.Mathlib.Omega.{arith}
use lib.ListN.{length}
use borrow.Author.Tests.{ne_eqb, le-leb}
use Rattle.model.specs.declared.Answer.{Answer}
use Rattle.model.specs.declared.Answer.TheVariants.{Done, Damaged, Shape, Twice}
use Rattle.model.specs.declared.Verdict.{Verdict}
use Rattle.model.specs.declared.Verdict.TheVariants.{Accepted}
use Rattle.model.specs.Answers.{code_of}
use Rattle.model.specs.Lists.{both}
use Rattle.model.specs.Store.{Store}
use Rattle.model.specs.Damage.{damaged}
use Rattle.model.specs.Changes.{Change, after}
use Rattle.model.specs.Judgement.{shaped, twice, judge}
use Rattle.model.specs.Calls.{journal_shaped, roomed, reached, answer_to, outcome, change}
use Rattle.journal.specs.Places.{Appended}
use Rattle.changes.specs.Left.{Left}
use Rattle.changes.proofs.Rooms.{Sober, sober, settled_sober}

-- ---- an answer decides what is left
module _ (st : Store) (j : List ℕ) (used : ℕ) (c : Change) (a : Answer) where
  kept : (code_of a ≡ 0 → ⊥) → Left (outcome a st j used c) a st j used
  kept d = rw (ne_eqb (code_of a) 0 d) (record { answered = refl; contains = refl; journal_is = refl; place_is = refl })

  changed : {s : Store} {k : List ℕ} {n : ℕ} → a ≡ Done (reached used c) → s ≡ after st c → Appended c j used k n → Left (outcome a st j used c) a s k n
  changed {s} {k} {n} d x y =
      subst (λ (b : Answer). Left (outcome b st j used c) b s k n) (sym d) (record { answered = refl; contains = x; journal_is = y.journal; place_is = y.place })

-- ---- refused before the store is asked
module _ (st : Store) (j : List ℕ) (used : ℕ) (good : Bool) (c : Change) where
  answered : {a : Answer} {s : Store} {k : List ℕ} {n : ℕ} → a ≡ answer_to st j used good c → Left (outcome a st j used c) a s k n → Left (change st j used good c) a s k n
  unfolding change
  answered {a} {s} {k} {n} e l = subst (λ (b : Answer). Left (outcome b st j used c) a s k n) e l

  say_damaged : damaged st ≡ true → Damaged ≡ answer_to st j used good c
  unfolding answer_to
  say_damaged e = rw e

  pub left_damaged : damaged st ≡ true → Left (change st j used good c) Damaged st j used
  left_damaged e = answered (say_damaged e) (kept st j used c Damaged (λ z. omega arith))

  module _ (w : damaged st ≡ false) where
    say_shape : both (both good (journal_shaped j used)) (shaped c) ≡ false → Shape ≡ answer_to st j used good c
    unfolding answer_to
    say_shape e = rw (w, e)

    pub left_shape : both (both good (journal_shaped j used)) (shaped c) ≡ false → Left (change st j used good c) Shape st j used
    left_shape e = answered (say_shape e) (kept st j used c Shape (λ z. omega arith))

    module _ (f : both (both good (journal_shaped j used)) (shaped c) ≡ true) where
      say_twice : twice c ≡ true → Twice ≡ answer_to st j used good c
      unfolding answer_to
      say_twice e = rw (w, f, e)

      pub left_twice : twice c ≡ true → Left (change st j used good c) Twice st j used
      left_twice e = answered (say_twice e) (kept st j used c Twice (λ z. omega arith))

-- ---- settled by the store and the journal's room; v is the verdict, a the answer
pub record Passed (st : Store) (j : List ℕ) (used : ℕ) (good : Bool) (c : Change) : Type 0 where
  pub whole : damaged st ≡ false
  pub formed : both (both good (journal_shaped j used)) (shaped c) ≡ true
  pub once : twice c ≡ false

module _ {st : Store} {j : List ℕ} {used : ℕ} {good : Bool} {c : Change} (p : Passed st j used good c) {v : Verdict} (q : v ≡ judge st c) {a : Answer} (e : a ≡ roomed v j used c) where
  say_settled : a ≡ answer_to st j used good c
  unfolding answer_to
  say_settled = rw (p.whole, p.formed, p.once, ← q) e

  pub left_refused : (code_of a ≡ 0 → ⊥) → Left (change st j used good c) a st j used
  left_refused d = answered st j used good c say_settled (kept st j used c a d)

-- ---- a change that passed the tests before, by its verdict with the journal's room
module _ {st : Store} {j : List ℕ} {used : ℕ} {good : Bool} {c : Change} (p : Passed st j used good c) {v : Verdict} (q : v ≡ judge st c) where
  pub made_refused : {a : Answer} → (a ≡ roomed v j used c) × (v ≡ Accepted → length j < reached used c) → Left (change st j used good c) a st j used
  made_refused e = left_refused p q e.0 (settled_sober v j used c (subst Sober (sym q) (sober st c)) e)

  pub made_done : (v ≡ Accepted) × (reached used c ≤ length j) → {s : Store} {k : List ℕ} {n : ℕ} → s ≡ after st c → Appended c j used k n
      → Left (change st j used good c) (Done n) s k n
  made_done e {s} {k} {n} x y =
      let d : Done (reached used c) ≡ roomed v j used c = rw (e.0, le-leb (reached used c) (length j) e.1) in
      subst (λ (m : ℕ). Left (change st j used good c) (Done m) s k n) (sym y.place)
      (answered st j used good c (say_settled p q d) (changed st j used c (Done (reached used c)) refl x y))
