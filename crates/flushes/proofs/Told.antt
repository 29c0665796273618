-- What a verdict tells a caller: an accepted flush has room for what it leaves, and a refusal is never code 0.
use Prim.Native.Nat.{ℕ}
use mathlib.Core.Path.{◌≡◌, refl, subst}
use mathlib.Core.Bool.{Bool, true, false}
use native.Mathlib.Omega.{arith}
use lib.ListN.{length}
use lib.Dec.{ltb}
use borrow.Author.Tests.{ltb-false}
use Rattle.model.specs.declared.Answer.{Answer}
use Rattle.model.specs.declared.Verdict.{Verdict}
use Rattle.model.specs.declared.Verdict.TheVariants.{Accepted, Idle, Refused}
use Rattle.model.specs.Lists.{pick, both, kept, empty_b}
use Rattle.model.specs.Answers.{code_of}
use Rattle.model.specs.Store.{Store}
use Rattle.model.specs.Changes.{dues, of_page, flush_store}
use Rattle.model.specs.Judgement.{judge_flush}
use Rattle.flushes.specs.Promises.{Room}

abbrev pub Told : Store → ℕ → Verdict → Type 0
Told st p Accepted = Room (flush_store st p)
Told st p Idle = Unit {0}
Told st p (Refused a) = code_of a ≡ 0 → ⊥

pick_all : {A : Type 0} (P : A → Type 0) (b : Bool) {x y : A} → (b ≡ true → P x) → (b ≡ false → P y) → P (pick b x y)
pick_all P true f g = f refl
pick_all P false f g = g refl

module _ (st : Store) (p : ℕ) where
  told : Told st p (judge_flush st p)
  unfolding judge_flush
  told =
      let P : Verdict → Type 0 = Told st p in
      pick_all P (both (empty_b (kept (of_page p) st.pending)) (empty_b (dues st p st.snapshots))) (λ _. tt)
      (λ _.
      pick_all P (ltb 128 (length (flush_store st p).copies)) (λ _ z. omega arith)
      (λ c.
      pick_all P (ltb 256 (length (flush_store st p).past)) (λ _ z. omega arith)
      (λ q. record { copy_room = ltb-false _ _ c; past_room = ltb-false _ _ q })))

  pub accepted_room : judge_flush st p ≡ Accepted → Room (flush_store st p)
  accepted_room e = subst (Told st p) e told

  pub refused_code : {a : Answer} → judge_flush st p ≡ Refused a → code_of a ≡ 0 → ⊥
  refused_code e = subst (Told st p) e told
