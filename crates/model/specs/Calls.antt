-- Document 01, "The journal" and "Numbers answered": a change with the journal that it is written to.
use Rattle.std.specs.Prelude.{ℕ, ◌+◌, Bool, true, List, ◌∷◌, length, leb, eqb}
use Rattle.model.specs.declared.Answer.{Answer}
use Rattle.model.specs.declared.Answer.TheVariants.{Done, Nothing, Damaged, Shape, Twice, NoRoom}
use Rattle.model.specs.declared.Verdict.{Verdict}
use Rattle.model.specs.declared.Verdict.TheVariants.{Accepted, Idle, Refused}
use Rattle.model.specs.Limits.{most_journal}
use Rattle.model.specs.Lists.{both, pick}
use Rattle.model.specs.Answers.{is_done, number_of}
use Rattle.model.specs.Bytes.{write_at}
use Rattle.model.specs.Store.{Store}
use Rattle.model.specs.Damage.{damaged}
use Rattle.model.specs.Changes.{Change, commit, gossip, flush, paired, after}
use Rattle.model.specs.Judgement.{shaped, twice, judge}
use Rattle.model.specs.Records.{encode}

-- ---- "Byte 0 is the version, 1." "Code 0 writes the record there, after the version byte when the used length is 0, and no
-- other byte"
abbrev pub version : ℕ
version = 1

abbrev pub appended : ℕ → Change → List ℕ
appended used c = pick (eqb used 0) (version ∷ encode c) (encode c)

unfoldable pub written : List ℕ → ℕ → Change → List ℕ
written j used c = write_at used (appended used c) j

-- the used length that a change reaches
unfoldable pub reached : ℕ → Change → ℕ
reached used c = used + length (appended used c)

-- ---- 3: "a journal over 65,535 bytes, and a used length beyond the journal"
abbrev pub journal_shaped : List ℕ → ℕ → Bool
journal_shaped j used = both (leb (length j) most_journal) (leb used (length j))

-- ---- a verdict with the journal's room, the last test: 0 with the new used length, 1 with the used length, 12 "the used
-- length it would have reached"
abbrev pub roomed : Verdict → List ℕ → ℕ → Change → Answer
roomed Accepted j used c = pick (leb (reached used c) (length j)) (Done (reached used c)) (NoRoom (reached used c))
roomed Idle j used c = Nothing used
roomed (Refused a) j used c = a

-- 2, 3, 4, then the change's own order; good is false where the arguments make no change at all
unfoldable pub answer_to : Store → List ℕ → ℕ → Bool → Change → Answer
answer_to st j used good c =
    pick (damaged st) Damaged
    (pick (both (both good (journal_shaped j used)) (shaped c))
    (pick (twice c) Twice
    (roomed (judge st c) j used c))
    Shape)

-- ---- what a change answers and leaves: "each call hands back the new place for the next, which is the old one unless the code is 0"
pub record Outcome : Type 0 where
  pub answer : Answer
  pub store : Store
  pub journal : List ℕ
  pub place : ℕ

abbrev pub outcome : Answer → Store → List ℕ → ℕ → Change → Outcome
outcome a st j used c =
    pick (is_done a)
    (record { answer = a; store = after st c; journal = written j used c; place = number_of a })
    (record { answer = a; store = st; journal = j; place = used })

unfoldable pub change : Store → List ℕ → ℕ → Bool → Change → Outcome
change st j used good c = outcome (answer_to st j used good c) st j used c

-- ---- the three calls. 3 covers "a commit's objects and values of unequal number"
abbrev pub commit_call : Store → List ℕ → ℕ → ℕ → List ℕ → List ℕ → Outcome
commit_call st j used t os vs = change st j used (eqb (length os) (length vs)) (commit t (paired os vs))

abbrev pub gossip_call : Store → List ℕ → ℕ → ℕ → ℕ → List ℕ → Outcome
gossip_call st j used prev curr stamps = change st j used true (gossip prev curr stamps)

abbrev pub flush_call : Store → List ℕ → ℕ → ℕ → Outcome
flush_call st j used p = change st j used true (flush p)
