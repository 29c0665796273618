-- The walk over the journal: some fuel is enough for what is left, and each step of the code is the model's.
use Prim.Native.Nat.{ℕ, zero, suc, ◌+◌, ◌≤◌, ◌<◌}
use mathlib.Core.Path.{◌≡◌, refl, ap, sym, ◌∙◌, subst}
use mathlib.Core.Bool.{Bool, true, false}
use mathlib.Core.List.{List, [], ◌∷◌}
use native.Mathlib.Omega.{arith}
use lib.ListN.{length, get_or}
use borrow.Author.Tests.{lt-ltb, le-ltb, eq-eqb, ne_eqb}
use Rattle.std.proofs.Common.{Some, None}
use Rattle.std.specs.List.{slice_get}
use Rattle.model.specs.declared.Answer.{Answer}
use Rattle.model.specs.declared.Answer.TheVariants.{Done, Shape, Version, Malformed, Contradiction}
use Rattle.model.specs.declared.Verdict.{Verdict}
use Rattle.model.specs.declared.Verdict.TheVariants.{Accepted, Idle, Refused}
use Rattle.model.specs.Store as model
use Rattle.model.specs.Store.{fresh}
use Rattle.model.specs.Changes.{after}
use Rattle.model.specs.Judgement.{judge}
use Rattle.model.specs.Records.{Step, end, short, malformed, whole, step_at}
use Rattle.model.specs.Restart.{Restarted, resumed, refused, admitted, stepped, walk, fresh_start, restart}
use Rattle.journal.specs.Heads.{head_step}
use Rattle.journal.specs.declared.place.Place.{Place}
use Rattle.journal.specs.declared.walk.Record.{Record}
use Rattle.journal.specs.declared.walk.Step.TheVariants as told
use Rattle.journal.proofs.Walks.{at_end}
use Rattle.history.proofs.Laws.{never, clash}
use Rattle.tables.specs.declared.Store.{Store}
use Rattle.tables.specs.Contents.{stored}
use Rattle.restart.specs.Promises.{Rebuilt}
use Rattle.restart.specs.Turns.{change_at, accepted_b, Turned, Held, Carried}
use Rattle.restart.proofs.Standing.{told_whole, Lies, lies}
use Rattle.restart.proofs.Turning.{was_accepted}
use Rattle.restart.proofs.Holding.{next_held}

-- ---- a step by what is told of it
told_end : (s : Step) → head_step s ≡ told.End → s ≡ end
told_end end e = refl
told_end short e = never (cc)
told_end (malformed o) e = never (cc)
told_end (whole c n) e = never (cc)

told_short : (s : Step) → head_step s ≡ told.Short → s ≡ short
told_short end e = never (cc)
told_short short e = refl
told_short (malformed o) e = never (cc)
told_short (whole c n) e = never (cc)

told_malformed : (s : Step) {o : ℕ} → head_step s ≡ told.Malformed o → s ≡ malformed o
told_malformed end e = never (cc)
told_malformed short e = never (cc)
told_malformed (malformed o) e = cc
told_malformed (whole c n) e = never (cc)

not_admitted : (v : Verdict) (at : ℕ) (more : Restarted) → false ≡ accepted_b v → admitted v at more ≡ refused (Contradiction at)
not_admitted Accepted at more h = clash true refl (sym h)
not_admitted Idle at more h = refl
not_admitted (Refused a) at more h = refl

-- ---- what is left of the walk
module _ (j : List ℕ) (at : ℕ) (st : model.Store) where
  pub walk_end : (n : ℕ) → head_step (step_at j at) ≡ told.End → walk n j at st ≡ resumed st at
  unfolding walk
  walk_end zero e = refl
  walk_end (suc n) e = rw (told_end (step_at j at) e)

  pub walk_short : (n : ℕ) → head_step (step_at j at) ≡ told.Short → walk n j at st ≡ resumed st at
  unfolding walk
  walk_short zero e = refl
  walk_short (suc n) e = rw (told_short (step_at j at) e)

  pub walk_malformed : (n o : ℕ) → length j ≤ at + n → head_step (step_at j at) ≡ told.Malformed o → walk n j at st ≡ refused (Malformed o)
  unfolding walk
  walk_malformed zero o h e = let z = at_end j at (omega arith) in never (cc)
  walk_malformed (suc n) o h e = rw (told_malformed (step_at j at) e)

  module _ {r : Record} {p : Place} (e : head_step (step_at j at) ≡ told.Whole r p) where
    lies_there : Lies j at p.at (change_at j at)
    lies_there = lies j at p.at (change_at j at) (told_whole (step_at j at) e).0

    pub moves_on : (at < p.at) × (p.at ≤ length j)
    moves_on = let l = lies_there in (omega (arith, l.ends), omega (arith, l.ends, l.inside))

    walk_whole : (n : ℕ) → walk (suc n) j at st ≡ admitted (judge st (change_at j at)) at (walk n j p.at (after st (change_at j at)))
    unfolding walk
    walk_whole n =
        ap (λ (s : Step). stepped s at st (λ c next. walk n j next (after st c))) (told_whole (step_at j at) e).0

    pub walk_contradicts : (n : ℕ) {st' : model.Store} → length j ≤ at + n → Turned st (change_at j at) false st' → walk n j at st ≡ refused (Contradiction at)
    walk_contradicts zero h t = let z = at_end j at (omega arith) in never (cc)
    walk_contradicts (suc n) h t = walk_whole n ∙ not_admitted (judge st (change_at j at)) at _ t.says

    pub walk_next : (n : ℕ) {st' : model.Store} → length j ≤ at + n → Turned st (change_at j at) true st'
        → (m : ℕ) × (length j ≤ p.at + m) × (walk n j at st ≡ walk m j p.at st')
    walk_next zero h t = let z = at_end j at (omega arith) in never (cc)
    walk_next (suc n) {st'} h t =
        let l = moves_on in
        let v : judge st (change_at j at) ≡ Accepted = was_accepted (judge st (change_at j at)) (sym t.says) in (
          n,
          omega arith,
          walk_whole n ∙ ap (λ (x : Verdict). admitted x at (walk n j p.at (after st (change_at j at)))) v ∙ ap (walk n j p.at) (sym t.contains),
        )

-- ---- the loop: the struct holds a whole store, and the rest of the walk from it is the whole walk
pub record Walking (j : List ℕ) (s : Store) (at : ℕ) : Type 0 where
  pub fuel : ℕ
  pub enough : length j ≤ at + fuel
  pub held : Held s
  pub rest : walk fuel j at (stored s) ≡ walk (length j) j 1 fresh

pub rebuilt_as : {x y : Restarted} {a : Answer} {st : model.Store} {place : ℕ} → x ≡ y → Rebuilt y a st place → Rebuilt x a st place
rebuilt_as {x} {y} {a} {st} {place} e r = subst (λ (z : Restarted). Rebuilt z a st place) (sym e) r

module _ {j : List ℕ} {s : Store} {at : ℕ} (w : Walking j s at) where
  walked_to : walk w.fuel j at (stored s) ≡ resumed (stored s) at → Rebuilt (walk (length j) j 1 fresh) (Done at) (stored s) at
  walked_to e = rebuilt_as (sym w.rest ∙ e) (record { answered = refl; contains = refl; place_is = refl })

  pub walked_end : head_step (step_at j at) ≡ told.End → Rebuilt (walk (length j) j 1 fresh) (Done at) (stored s) at
  walked_end e = walked_to (walk_end j at (stored s) w.fuel e)

  pub walked_short : head_step (step_at j at) ≡ told.Short → Rebuilt (walk (length j) j 1 fresh) (Done at) (stored s) at
  walked_short e = walked_to (walk_short j at (stored s) w.fuel e)

  pub walked_malformed : {o : ℕ} → head_step (step_at j at) ≡ told.Malformed o → walk (length j) j 1 fresh ≡ refused (Malformed o)
  walked_malformed {o} e = sym w.rest ∙ walk_malformed j at (stored s) w.fuel o w.enough e

  module _ {r : Record} {p : Place} (e : head_step (step_at j at) ≡ told.Whole r p) {b : Bool} {s' : Store} (t : Carried (stored s) (change_at j at) b s') where
    pub walked_contradicts : b ≡ false → walk (length j) j 1 fresh ≡ refused (Contradiction at)
    walked_contradicts f =
        let u = subst (λ (x : Bool). Turned (stored s) (change_at j at) x (stored s')) f t.turned in
        sym w.rest ∙ walk_contradicts j at (stored s) e w.fuel w.enough u

    pub walked_on : b ≡ true → Walking j s' p.at
    walked_on f =
        let u = subst (λ (x : Bool). Carried (stored s) (change_at j at) x s') f t in
        let n = walk_next j at (stored s) e w.fuel w.enough u.turned in
        record {
          fuel = n.0;
          enough = n.1;
          held = next_held w.held.whole (lies_there j at (stored s) e).formed u;
          rest = sym n.2 ∙ w.rest;
        }

-- ---- the journal's first byte
pub first_there : (j : List ℕ) {v : ℕ} → Some v ≡ slice_get j 0 → (0 < length j) × (get_or j 0 0 ≡ v)
first_there [] e = never (cc)
first_there (x ∷ xs) e = (omega arith, cc)

pub none_there : (j : List ℕ) → None ≡ slice_get j 0 → length j ≡ 0
none_there [] e = refl
none_there (x ∷ xs) e = never (cc)

module _ (j : List ℕ) where
  pub restart_shape : 65535 < length j → restart j ≡ refused Shape
  unfolding restart
  restart_shape h = rw (lt-ltb 65535 (length j) h)

pub restart_empty : (j : List ℕ) → length j ≡ 0 → restart j ≡ refused (Done 0)
unfolding restart fresh_start
restart_empty [] h = refl
restart_empty (v ∷ rest) h = absurd (omega arith)

pub restart_version : (j : List ℕ) → length j ≤ 65535 → 0 < length j → (get_or j 0 0 ≡ 1 → ⊥) → restart j ≡ refused (Version (get_or j 0 0))
unfolding restart
restart_version [] h l n = absurd (omega arith)
restart_version (v ∷ rest) h l n = rw (le-ltb 65535 (length (v ∷ rest)) h, ne_eqb v 1 n)

pub restart_version_of : (j : List ℕ) {v : ℕ} → length j ≤ 65535 → 0 < length j → get_or j 0 0 ≡ v → (v ≡ 1 → ⊥) → restart j ≡ refused (Version v)
restart_version_of j h l e n = rw (restart_version j h l (λ z. n (sym e ∙ z)), e)

pub restart_walk : (j : List ℕ) → length j ≤ 65535 → 0 < length j → get_or j 0 0 ≡ 1 → restart j ≡ walk (length j) j 1 fresh
unfolding restart
restart_walk [] h l n = absurd (omega arith)
restart_walk (v ∷ rest) h l n = rw (le-ltb 65535 (length (v ∷ rest)) h, eq-eqb v 1 n)
