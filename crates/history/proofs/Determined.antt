-- Demand 1: one outcome for every call and input, and a refusal changes nothing.
use Prim.Native.Nat.{ℕ, zero, suc}
use mathlib.Core.Path.{◌≡◌, refl, sym, ◌∙◌}
use mathlib.Core.Bool.{Bool, true}
use mathlib.Core.List.{List, [], ◌∷◌}
use lib.ListN.{length}
use lib.Dec.{ltb, eqb}
use lib.IntN.{pos}
use borrow.Author.Tests.{eqb-true}
use Rattle.model.specs.declared.Answer.{Answer}
use Rattle.model.specs.declared.Answer.TheVariants.{Done, Damaged, Shape}
use Rattle.model.specs.declared.Verdict.{Verdict}
use Rattle.model.specs.declared.Verdict.TheVariants.{Accepted, Idle, Refused}
use Rattle.model.specs.Limits.{most_journal}
use Rattle.model.specs.Lists.{both, pick}
use Rattle.model.specs.Answers.{code_of, number_of}
use Rattle.model.specs.Store.{Store, fresh, page_as_of, page_now}
use Rattle.model.specs.Damage.{damaged}
use Rattle.model.specs.Changes.{Change}
use Rattle.model.specs.Judgement.{judge}
use Rattle.model.specs.Reads.{shown, read_shaped, snapshot_answer, read_at, current_read, Stood, standing, Knowledge, known}
use Rattle.model.specs.Records.{Step, end, short, malformed, whole, step_at}
use Rattle.model.specs.Calls.{change}
use Rattle.model.specs.Restart.{Restarted, admitted, stepped, walk, fresh_start, versioned, restart}
use Rattle.history.specs.Demands.{NotDone, One, Unchanged, Unshown, DemandOne}
use Rattle.history.proofs.Laws.{pick_all}
use Rattle.history.proofs.Granted.{change_cases}

-- two outcomes that keep one promise are equal
pub one_outcome : {A : Type 0} (promised : A) → One promised
one_outcome promised x y p q = p ∙ sym q

-- ---- refusals
pub change_refused : (st : Store) (j : List ℕ) (used : ℕ) (good : Bool) (c : Change) → Unchanged st j used (change st j used good c)
change_refused st j used good c =
    change_cases st j used c (Unchanged st j used) good (λ g r. absurd (r refl)) (λ n r. (refl, refl, refl))

shown_refused : (a : Answer) (page buffer : List ℕ) → Unshown buffer (shown a page buffer)
shown_refused a page buffer r = pick_all (λ b. b ≡ buffer) (eqb (code_of a) 0) (λ e. absurd (r (eqb-true (code_of a) 0 e))) (λ e. refl)

pub read_refused : (st : Store) (good : Bool) (time p : ℕ) (buffer : List ℕ) → Unshown buffer (read_at st good time p buffer)
unfolding read_at
read_refused st good time p buffer r =
    let a = snapshot_answer st (both good (read_shaped p buffer)) time in shown_refused a (page_as_of st p (number_of a)) buffer r

pub current_refused : (st : Store) (p : ℕ) (buffer : List ℕ) → Unshown buffer (current_read st p buffer)
unfolding current_read
current_refused st p buffer r =
    shown_refused (pick (damaged st) Damaged (pick (read_shaped p buffer) (Done 0) Shape)) (page_now st p) buffer r

-- a refused restart
abbrev Clean : Restarted → Type 0
Clean r = NotDone r.answer → (r.store ≡ fresh) × (r.place ≡ 0)

admitted_clean : (v : Verdict) (at : ℕ) (r : Restarted) → Clean r → Clean (admitted v at r)
admitted_clean Accepted at r k = k
admitted_clean Idle at r k = λ n. (refl, refl)
admitted_clean (Refused a) at r k = λ n. (refl, refl)

stepped_clean : (s : Step) (at : ℕ) (st : Store) (more : Change → ℕ → Restarted) → ((c : Change) (next : ℕ) → Clean (more c next)) → Clean (stepped s at st more)
stepped_clean end at st more k = λ n. absurd (n refl)
stepped_clean short at st more k = λ n. absurd (n refl)
stepped_clean (malformed offset) at st more k = λ n. (refl, refl)
stepped_clean (whole c next) at st more k = admitted_clean (judge st c) at (more c next) (k c next)

walk_clean : (n : ℕ) (j : List ℕ) (at : ℕ) (st : Store) → Clean (walk n j at st)
unfolding walk
walk_clean zero j at st = λ n. absurd (n refl)
walk_clean (suc n) j at st = stepped_clean (step_at j at) at st _ (λ c next. walk_clean n j next _)

versioned_clean : (j : List ℕ) → Clean (versioned j)
unfolding fresh_start
versioned_clean [] = λ n. (refl, refl)
versioned_clean (v ∷ rest) = pick_all Clean (eqb v 1) (λ e. walk_clean (length (v ∷ rest)) (v ∷ rest) 1 fresh) (λ e n. (refl, refl))

pub restart_refused : (j : List ℕ) → Clean (restart j)
unfolding restart
restart_refused j = pick_all Clean (ltb most_journal (length j)) (λ e n. (refl, refl)) (λ e. versioned_clean j)

-- DEMAND 1
pub demand_one : DemandOne
unfolding standing known
demand_one = record {
  commit_one = λ st j used t os vs. one_outcome _;
  gossip_one = λ st j used prev curr stamps. one_outcome _;
  flush_one = λ st j used p. one_outcome _;
  snapshot_one = λ st time p buffer. one_outcome _;
  clock_one = λ st tick p buffer. one_outcome _;
  current_one = λ st p buffer. one_outcome _;
  standing_one = λ st. one_outcome _;
  known_one = λ st. one_outcome _;
  restart_one = λ j. one_outcome _;
  fresh_one = one_outcome _;
  commit_refused = λ st j used t os vs. change_refused st j used _ _;
  gossip_refused = λ st j used prev curr stamps. change_refused st j used _ _;
  flush_refused = λ st j used p. change_refused st j used _ _;
  snapshot_refused = λ st time p buffer. read_refused st true time p buffer;
  clock_refused = λ st tick p buffer. read_refused st _ _ p buffer;
  current_refused = current_refused;
  standing_refused = λ st.
      pick_all (λ (s : Stood). NotDone s.answer → s.figures ≡ record { pending = 0; past = 0; snapshots = 0; copies = 0; lag = pos 0 }) (damaged st)
      (λ d r. refl) (λ d r. absurd (r refl));
  known_refused = λ st.
      pick_all (λ (k : Knowledge). NotDone k.answer → (k.horizon ≡ 0) × (k.last ≡ 0) × (k.snapshots ≡ [])) (damaged st)
      (λ d r. (refl, refl, refl)) (λ d r. absurd (r refl));
  restart_refused = restart_refused;
}
