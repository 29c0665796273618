-- Document 01, "A worked night": its calls made on the model, and one table of what they give beside what 01 tells.
use Rattle.std.specs.Prelude.{ℕ, ◌≡◌, List, [], ◌∷◌, take, replicate, pos}
use Rattle.model.specs.declared.Answer.{Answer}
use Rattle.model.specs.declared.Figures.{Figures}
use Rattle.model.specs.Answers.{code_of, number_of}
use Rattle.model.specs.Store.{fresh}
use Rattle.model.specs.Reads.{Shown, snapshot_read, standing}
use Rattle.model.specs.Calls.{Outcome, commit_call, gossip_call, flush_call}
use Rattle.model.specs.Restart.{Restarted, restart}

-- ---- a call gets the store, the journal and the place that the last one left. Every commit of the night has one write
abbrev pub commits : Outcome → ℕ → ℕ → ℕ → Outcome
commits at t o v = commit_call at.store at.journal at.place t (o ∷ []) (v ∷ [])

abbrev pub gossips : Outcome → ℕ → ℕ → List ℕ → Outcome
gossips at prev curr stamps = gossip_call at.store at.journal at.place prev curr stamps

abbrev pub flushes : Outcome → ℕ → Outcome
flushes at p = flush_call at.store at.journal at.place p

-- page 0, into a buffer of sixteen words that aren't 0
abbrev pub reads : Outcome → ℕ → Shown
reads at time = snapshot_read at.store time 0 (replicate 16 85)

abbrev pub stands : Outcome → Figures
stands at = (standing at.store).figures

-- ---- the calls
-- "Fresh store, 4,096 bytes of journal." 1: "Commit 100, object 0 = 7"
abbrev pub item1 : Outcome
item1 = commit_call fresh (replicate 4096 0) 0 100 (0 ∷ []) (7 ∷ [])

-- 2: "Commit 100 again"
abbrev pub item2 : Outcome
item2 = commits item1 100 0 7

-- 3: "Commit 120, object 0 = 9"
abbrev pub item3 : Outcome
item3 = commits item2 120 0 9

-- 4: "Gossip 0, 110, {105}"
abbrev pub item4 : Outcome
item4 = gossips item3 0 110 (105 ∷ [])

-- 5 and 6 read what item 4 left, and change nothing. 7: "Flush 0"
abbrev pub item7 : Outcome
item7 = flushes item4 0

-- 8: "Flush 0"
abbrev pub item8 : Outcome
item8 = flushes item7 0

-- 9: "Gossip 110, 200, {}"
abbrev pub item9 : Outcome
item9 = gossips item8 110 200 []

-- 10: "Commit 200", 01 names no write; "Gossip 201, 300, {}"
abbrev pub item10 : Outcome
item10 = commits item9 200 0 5

abbrev pub item10b : Outcome
item10b = gossips item10 201 300 []

-- 11: "Gossip 100, 300, {106}"; "Gossip 100, 150, {105}"
abbrev pub item11 : Outcome
item11 = gossips item10b 100 300 (106 ∷ [])

abbrev pub item11b : Outcome
item11b = gossips item11 100 150 (105 ∷ [])

-- 12: "Separately: commit 120 of 9, gossip 0, 120, {120}"
abbrev pub item12 : Outcome
item12 = gossips (commit_call fresh (replicate 4096 0) 0 120 (0 ∷ []) (9 ∷ [])) 0 120 (120 ∷ [])

-- 13: "Restart from the first 22 bytes of item 1"; "From none"
abbrev pub item13 : Restarted
item13 = restart (take 22 item1.journal)

abbrev pub item13b : Restarted
item13b = restart []

-- ---- the table: an item, what the model gives, what 01 tells. A code and its number are a pair
pub record Case : Type 1 where
  pub item : ℕ
  pub Kind : Type 0
  pub found : Kind
  pub told : Kind

abbrev pub row : {A : Type 0} → ℕ → A → A → Case
row {A} n found told = record { item = n; Kind = A; found = found; told = told }

abbrev pub said : Answer → ℕ × ℕ
said a = (code_of a, number_of a)

-- the starred items, and 3 and 8. The last bytes of item 1's journal are those that nothing wrote
unfoldable pub table : List Case
table =
    row 1 (said item1.answer) (0, 23)
    ∷ row 1 item1.journal (0x01 ∷ 0x00 ∷ 0x14 ∷ 0x01 ∷ 0x00 ∷ 0x00 ∷ 0x00 ∷ 0x00 ∷ 0x00 ∷ 0x00 ∷ 0x00 ∷ 0x64 ∷ 0x01 ∷ 0x00 ∷ 0x00 ∷ 0x00 ∷ 0x00 ∷ 0x00 ∷ 0x00 ∷ 0x00 ∷ 0x00 ∷ 0x00 ∷ 0x07 ∷ replicate 4073 0)
    ∷ row 2 (said item2.answer) (5, 100)
    ∷ row 3 (said item3.answer) (0, 45)
    ∷ row 3 item3.store.past (record { object = 0; from = 100; until = 120; value = 7 } ∷ [])
    ∷ row 4 (said item4.answer) (0, 73)
    ∷ row 5 (said (reads item4 107).answer) (0, 105)
    ∷ row 5 (reads item4 107).buffer (7 ∷ replicate 15 0)
    ∷ row 6 (said (reads item4 104).answer) (14, 0)
    ∷ row 6 (said (reads item4 111).answer) (13, 110)
    ∷ row 7 (said item7.answer) (0, 77)
    ∷ row 7 (stands item7).copies 1
    ∷ row 7 (stands item7).past 1
    ∷ row 8 (said item8.answer) (1, 77)
    ∷ row 9 (said item9.answer) (0, 97)
    ∷ row 9 (stands item9).past 0
    ∷ row 9 (stands item9).lag (pos 0)
    ∷ row 10 (said item10.answer) (5, 200)
    ∷ row 10 (said item10b.answer) (6, 200)
    ∷ row 11 (said item11.answer) (7, 105)
    ∷ row 11 (said item11b.answer) (1, 97)
    ∷ row 12 (reads item12 120).buffer (9 ∷ replicate 15 0)
    ∷ row 13 (said item13.answer) (0, 1)
    ∷ row 13 item13.store fresh
    ∷ row 13 (said item13b.answer) (0, 0)
    ∷ row 13 item13b.store fresh
    ∷ []

-- in every row the model gives what 01 tells
abbrev pub Holds : List Case → Type 0
Holds [] = Unit {0}
Holds (c ∷ cs) = (c.found ≡ c.told) × Holds cs
