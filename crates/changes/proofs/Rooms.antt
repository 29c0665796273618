-- A verdict with the journal's room: each answer by its case, and what an answer of code 0 tells.
use Prim.Native.Nat.{ℕ, ◌+◌, ◌≤◌, ◌<◌}
use mathlib.Core.Path.{◌≡◌, refl}
use mathlib.Core.List.{List, []}
use native.Mathlib.Omega.{arith}
use lib.ListN.{length}
use lib.Dec.{ltb, eqb}
use borrow.Author.Tests.{lt-leb}
use Rattle.model.specs.declared.Answer.{Answer}
use Rattle.model.specs.declared.Answer.TheVariants.{Nothing, NoRoom}
use Rattle.model.specs.declared.Verdict.{Verdict}
use Rattle.model.specs.declared.Verdict.TheVariants.{Accepted, Idle, Refused}
use Rattle.model.specs.Answers.{code_of}
use Rattle.model.specs.Lists.{pick, kept}
use Rattle.model.specs.Store.{Store}
use Rattle.model.specs.Changes.{Change, commit, gossip, flush}
use Rattle.model.specs.Judgement.{judge, judge_gossip, judge_flush}
use Rattle.model.specs.Records.{length_of}
use Rattle.model.specs.Calls.{reached, roomed}
use Rattle.tables.specs.declared.Store as whole
use Rattle.tables.specs.Rows.{up_to}
use Rattle.tables.specs.Contents.{stored}
use Rattle.tables.proofs.Counts.{up_to_length}
use Rattle.journal.proofs.Places.{reached_is}
use Rattle.commits.proofs.Judged as commits
use Rattle.gossips.proofs.Judged as gossips
use Rattle.flushes.proofs.Told as flushes

-- ---- the answers; r is the place behind a record of length n
module _ (j : List ℕ) (used : ℕ) {v : Verdict} where
  module _ {n r : ℕ} (p : r ≡ used + pick (eqb used 0) 1 0 + (2 + n)) (e : v ≡ Accepted) (c : Change) (l : length_of c ≡ n) where
    reaches : r ≡ reached used c
    reaches = rw (reached_is used c, l) p

    pub settled_no_room : length j < r → NoRoom r ≡ roomed v j used c
    settled_no_room h = rw (e, ← reaches, lt-leb r (length j) h)

    pub fits_there : r ≤ length j → (v ≡ Accepted) × (reached used c ≤ length j)
    fits_there h = let q = reaches in (e, omega arith)

    pub no_room_there : length j < r → (NoRoom r ≡ roomed v j used c) × (v ≡ Accepted → length j < reached used c)
    no_room_there h = let q = reaches in (settled_no_room h, λ _. omega arith)

  pub settled_idle : v ≡ Idle → (c : Change) → Nothing used ≡ roomed v j used c
  settled_idle e c = rw e

-- ---- no refusal is of code 0
abbrev pub Sober : Verdict → Type 0
Sober Accepted = Unit {0}
Sober Idle = Unit {0}
Sober (Refused a) = code_of a ≡ 0 → ⊥

sober_by : (v : Verdict) → ((a : Answer) → v ≡ Refused a → code_of a ≡ 0 → ⊥) → Sober v
sober_by Accepted h = tt
sober_by Idle h = tt
sober_by (Refused a) h = h a refl

pub sober : (st : Store) (c : Change) → Sober (judge st c)
sober st (commit t ws) = sober_by _ (λ a e. commits.refused_code st t ws e)
sober st (gossip prev curr stamps) = sober_by _ (λ a e. gossips.refused_code st prev curr stamps e)
sober st (flush p) = sober_by _ (λ a e. flushes.refused_code st p e)

-- ---- what is in the way is of no code 0: a record that doesn't fit, nothing to do, or a refusal
pub settled_sober : (v : Verdict) (j : List ℕ) (used : ℕ) (c : Change) {a : Answer} → Sober v → (a ≡ roomed v j used c) × (v ≡ Accepted → length j < reached used c) → code_of a ≡ 0 → ⊥
settled_sober Accepted j used c s e z =
    let l = e.1 refl in
    let y : ◌≡◌ {A = ℕ} 12 0 = rw (e.0, lt-leb (reached used c) (length j) l) at z in
    omega arith
settled_sober Idle j used c s e z = let y : ◌≡◌ {A = ℕ} 1 0 = rw e.0 at z in omega arith
settled_sober (Refused b) j used c s e z = s (rw e.0 at z)

-- ---- without entries and snapshots a flush has nothing to do
up_to_none : {A : Type 0} (d : A) (n : ℕ) (rows : List A) → n ≡ 0 → up_to d n rows ≡ []
up_to_none d n rows e = rw e

empty_idle : (st : Store) (p : ℕ) → st.pending ≡ [] → st.snapshots ≡ [] → Idle ≡ judge_flush st p
unfolding judge_flush
empty_idle st p e f = rw (e, f)

pub flush_idle : (s : whole.Store) (p : ℕ) → s.heads.pending + s.heads.snapshots ≡ 0 → Idle ≡ judge_flush (stored s) p
flush_idle s p e = empty_idle (stored s) p (up_to_none _ s.heads.pending _ (omega arith)) (up_to_none _ s.heads.snapshots _ (omega arith))

-- ---- the room for a message's new stamps, by the count that the heads have
pub gossip_room : (s : whole.Store) (prev curr : ℕ) (stamps : List ℕ) → judge_gossip (stored s) prev curr stamps ≡ Accepted
    → s.heads.snapshots + length (kept (ltb s.heads.horizon) stamps) ≤ 64
gossip_room s prev curr stamps e =
    rw (up_to_length 0 s.heads.snapshots s.snapshots) at (gossips.accepted_room (stored s) prev curr stamps e)
