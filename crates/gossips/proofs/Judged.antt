-- What a verdict tells: accepted, the new stamps fit; refused, the answer isn't code 0.
use Prim.Native.Nat.{ℕ, ◌+◌, ◌≤◌}
use mathlib.Core.Path.{◌≡◌, refl, subst}
use mathlib.Core.Bool.{Bool, true, false}
use mathlib.Core.List.{List}
use native.Mathlib.Omega.{arith}
use lib.ListN.{length, length-append}
use lib.Dec.{ltb, leb}
use borrow.Author.Tests.{ltb-false}
use Rattle.model.specs.declared.Answer.{Answer}
use Rattle.model.specs.declared.Answer.TheVariants.{Conflict}
use Rattle.model.specs.declared.Verdict.{Verdict}
use Rattle.model.specs.declared.Verdict.TheVariants.{Accepted, Idle, Refused}
use Rattle.model.specs.Answers.{code_of}
use Rattle.model.specs.Lists.{pick, kept}
use Rattle.model.specs.Store.{Store}
use Rattle.model.specs.Changes.{gossip_store, known_after}
use Rattle.model.specs.Judgement.{Compared, same, differ, against, agreed, judge_gossip}

-- n is the count of the snapshots known afterwards
abbrev Tells : ℕ → Verdict → Type 0
Tells n Accepted = n ≤ 64
Tells n Idle = Unit {0}
Tells n (Refused a) = code_of a ≡ 0 → ⊥

pick_all : (P : Verdict → Type 0) (b : Bool) {x y : Verdict} → P x → (b ≡ false → P y) → P (pick b x y)
pick_all P true f g = f
pick_all P false f g = g refl

agreed_all : (P : Verdict → Type 0) (w : Compared) {v : Verdict} → ((s : ℕ) → P (Refused (Conflict s))) → P v → P (agreed w v)
agreed_all P same f g = g
agreed_all P (differ s) f g = f s

module _ (st : Store) (prev curr : ℕ) (stamps : List ℕ) where
  tells : Tells (length (known_after st stamps)) (judge_gossip st prev curr stamps)
  unfolding judge_gossip gossip_store
  tells =
      let P = Tells (length (known_after st stamps)) in
      pick_all P (ltb st.horizon prev) (λ e. omega arith)
      (λ _. agreed_all P (against st prev curr stamps) (λ s e. omega arith)
      (pick_all P (leb curr st.horizon) tt
      (λ _. pick_all P (ltb 64 (length (known_after st stamps))) (λ e. omega arith) (λ e. ltb-false _ _ e))))

  pub accepted_room : judge_gossip st prev curr stamps ≡ Accepted → length st.snapshots + length (kept (ltb st.horizon) stamps) ≤ 64
  accepted_room e =
      rw (length-append st.snapshots (kept (ltb st.horizon) stamps)) at (subst (Tells (length (known_after st stamps))) e tells)

  pub refused_code : {a : Answer} → judge_gossip st prev curr stamps ≡ Refused a → code_of a ≡ 0 → ⊥
  refused_code e = subst (Tells (length (known_after st stamps))) e tells
