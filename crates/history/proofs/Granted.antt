-- What a change's code says: 0 is answered to a well-formed change that the store accepts and the journal has room for, and what
-- it leaves then; any other code leaves all as it was; 2 is answered by a Damaged store alone.
use Prim.Native.Nat.{ℕ, ◌+◌, ◌≤◌, ◌<◌}
use mathlib.Core.Path.{◌≡◌, refl, ap, ◌∙◌}
use mathlib.Core.Bool.{Bool, true, not}
use mathlib.Core.List.{List, ◌++◌}
use native.Mathlib.Omega.{arith}
use lib.ListN.{length, take}
use lib.Seq.{take-add}
use lib.Dec.{ltb, leb, eqb}
use borrow.Author.Tests.{leb-true, eqb-true, eqb-false}
use Rattle.model.specs.declared.Answer.{Answer}
use Rattle.model.specs.declared.Answer.TheVariants.{Done}
use Rattle.model.specs.declared.Verdict.{Verdict}
use Rattle.model.specs.declared.Verdict.TheVariants.{Accepted, Idle, Refused}
use Rattle.model.specs.Limits.{most_journal}
use Rattle.model.specs.Lists.{both, either, kept, empty_b}
use Rattle.model.specs.Answers.{code_of}
use Rattle.model.specs.Store.{Store}
use Rattle.model.specs.Damage.{damaged}
use Rattle.model.specs.Changes.{Change, commit, gossip, flush, commit_store, gossip_store, flush_store, dues, of_page, after}
use Rattle.model.specs.Judgement.{shaped, twice, well_formed, judge_commit, Compared, same, differ, against, agreed, judge_gossip, judge_flush, judge}
use Rattle.model.specs.Calls.{appended, written, reached, journal_shaped, roomed, answer_to, Outcome, change}
use Rattle.history.proofs.Laws.{both_left, both_right, both_yes, pick_all}
use Rattle.history.proofs.Encoding.{encode_length, written_else}

-- ---- no verdict is a refusal of code 0, 1 or 2
abbrev Refusal : Verdict → Type 0
Refusal Accepted = Unit {0}
Refusal Idle = Unit {0}
Refusal (Refused a) = 2 < code_of a

agreed_refusal : (x : Compared) (v : Verdict) → Refusal v → Refusal (agreed x v)
agreed_refusal same v r = r
agreed_refusal (differ s) v r = omega arith

refusal : (st : Store) (c : Change) → Refusal (judge st c)
unfolding judge_commit judge_gossip judge_flush
refusal st (commit t ws) =
    pick_all Refusal (either (leb t st.last) (leb t st.horizon)) (λ e. omega arith)
    (λ e. pick_all Refusal (ltb 128 (length (commit_store st t ws).pending)) (λ e. omega arith)
    (λ e. pick_all Refusal (ltb 256 (length (commit_store st t ws).past)) (λ e. omega arith) (λ e. tt)))
refusal st (gossip prev curr stamps) =
    pick_all Refusal (ltb st.horizon prev) (λ e. omega arith)
    (λ e. agreed_refusal (against st prev curr stamps) _
    (pick_all Refusal (leb curr st.horizon) (λ e. tt)
    (λ e. pick_all Refusal (ltb 64 (length (gossip_store st curr stamps).snapshots)) (λ e. omega arith) (λ e. tt))))
refusal st (flush p) =
    pick_all Refusal (both (empty_b (kept (of_page p) st.pending)) (empty_b (dues st p st.snapshots))) (λ e. tt)
    (λ e. pick_all Refusal (ltb 128 (length (flush_store st p).copies)) (λ e. omega arith)
    (λ e. pick_all Refusal (ltb 256 (length (flush_store st p).past)) (λ e. omega arith) (λ e. tt)))

-- ---- what code 0 says
pub record Granted (st : Store) (j : List ℕ) (used : ℕ) (c : Change) (a : Answer) : Type 0 where
  pub formed : well_formed c ≡ true
  pub judged : judge st c ≡ Accepted
  pub room : reached used c ≤ length j
  pub most : length j ≤ most_journal
  pub answered : a ≡ Done (reached used c)

module _ (st : Store) (j : List ℕ) (used : ℕ) (c : Change) where
  -- an answer of code 0 is granted, and one of code 2 is no answer
  record Said (a : Answer) : Type 0 where
    zero : code_of a ≡ 0 → Granted st j used c a
    two : code_of a ≡ 2 → damaged st ≡ true

  said_else : (a : Answer) → 2 < code_of a → Said a
  said_else a l = record { zero = λ e. absurd (omega arith); two = λ e. absurd (omega arith) }

  said_roomed : well_formed c ≡ true → length j ≤ most_journal → (v : Verdict) → judge st c ≡ v → Refusal v → Said (roomed v j used c)
  said_roomed w m Accepted e r =
      pick_all Said (leb (reached used c) (length j))
      (λ l. record {
        zero = λ _. record { formed = w; judged = e; room = leb-true _ _ l; most = m; answered = refl };
        two = λ z. absurd (omega arith);
      })
      (λ l. said_else _ (omega arith))
  said_roomed w m Idle e r = record { zero = λ e. absurd (omega arith); two = λ e. absurd (omega arith) }
  said_roomed w m (Refused a) e r = said_else a r

  said : (good : Bool) → Said (answer_to st j used good c)
  unfolding answer_to
  said good =
      pick_all Said (damaged st)
      (λ d. record { zero = λ e. absurd (omega arith); two = λ e. d })
      (λ d.
      pick_all Said (both (both good (journal_shaped j used)) (shaped c))
      (λ s.
      let g = both_left (both good (journal_shaped j used)) (shaped c) s in
      let m = leb-true _ _ (both_left (leb (length j) most_journal) _ (both_right good (journal_shaped j used) g)) in
      pick_all Said (twice c)
      (λ t. said_else _ (omega arith))
      (λ t. said_roomed (both_yes (both_right (both good (journal_shaped j used)) (shaped c) s) (ap not t)) m (judge st c) refl (refusal st c)))
      (λ s. said_else _ (omega arith)))

  pub granted : (good : Bool) → code_of (answer_to st j used good c) ≡ 0 → Granted st j used c (answer_to st j used good c)
  granted good = (said good).zero

  pub damaged_alone : (good : Bool) → code_of (answer_to st j used good c) ≡ 2 → damaged st ≡ true
  damaged_alone good = (said good).two

  -- ---- what a change leaves: with code 0 the store after it and the record in the journal, else all as it was
  pub change_cases : (P : Outcome → Type 0) (good : Bool)
      → (Granted st j used c (answer_to st j used good c) → P (record { answer = Done (reached used c); store = after st c; journal = written j used c; place = reached used c }))
      → ((code_of (answer_to st j used good c) ≡ 0 → ⊥) → P (record { answer = answer_to st j used good c; store = st; journal = j; place = used }))
      → P (change st j used good c)
  unfolding change
  change_cases P good f g =
      pick_all P (eqb (code_of (answer_to st j used good c)) 0)
      (λ e. let r = granted good (eqb-true _ 0 e) in rw r.answered (f r))
      (λ e. g (eqb-false _ 0 e))

  -- the bytes used after it
  pub used_after : reached used c ≤ length j → take (reached used c) (written j used c) ≡ take used j ++ appended used c
  unfolding reached
  used_after l =
      let o = written_else j used c l in
      take-add used (length (appended used c)) (written j used c) ∙ (λ i. o.before i ++ o.here i)

pub reached_more : (used : ℕ) (c : Change) → used < reached used c
unfolding reached
reached_more used c =
    let l = encode_length c in
    pick_all (λ (bs : List ℕ). used < used + length bs) (eqb used 0) (λ e. omega arith) (λ e. omega arith)
