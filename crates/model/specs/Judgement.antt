-- Document 01, "Numbers answered", Order: what a change is refused for, whatever journal it goes to.
use Rattle.std.specs.Prelude.{ℕ, max, min, Bool, false, not, List, [], ◌∷◌, length, ltb, leb, eqb}
use Rattle.model.specs.declared.Answer.TheVariants.{Late, Gap, Conflict, PendingFull, PastFull, SnapshotsFull, ArchiveFull}
use Rattle.model.specs.declared.Verdict.{Verdict}
use Rattle.model.specs.declared.Verdict.TheVariants.{Accepted, Idle, Refused}
use Rattle.model.specs.Limits.{pages, objects, most_writes, most_stamps, most_pending, most_past, most_snapshots, most_copies}
use Rattle.model.specs.Lists.{both, either, pick, all_b, kept, empty_b, twice_b, rising_from}
use Rattle.model.specs.Store.{Store}
use Rattle.model.specs.Changes.{Write, Change, commit, gossip, flush, objects_of, commit_store, gossip_store, flush_store, dues, of_page}

-- ---- 3, Shape: "a list, page, object .. out of range"; of gossip "over 16, prev > curr, not strictly ascending, outside the
-- bounds", which are prev < stamp <= curr
unfoldable pub objects_shaped : List ℕ → Bool
objects_shaped os = both (both (leb 1 (length os)) (leb (length os) most_writes)) (all_b (λ o. ltb o objects) os)

unfoldable pub stamps_shaped : ℕ → ℕ → List ℕ → Bool
stamps_shaped prev curr stamps =
    both (both (leb (length stamps) most_stamps) (leb prev curr)) (both (rising_from prev stamps) (all_b (λ s. leb s curr) stamps))

abbrev pub shaped : Change → Bool
shaped (commit t ws) = objects_shaped (objects_of ws)
shaped (gossip prev curr stamps) = stamps_shaped prev curr stamps
shaped (flush p) = ltb p pages

-- ---- 4, "Twice is one object named twice in a commit."
abbrev pub twice : Change → Bool
twice (commit t ws) = twice_b (objects_of ws)
twice (gossip prev curr stamps) = false
twice (flush p) = false

-- a well-formed change passes "the Shape and Twice rules"
abbrev pub well_formed : Change → Bool
well_formed c = both (shaped c) (not (twice c))

-- ---- Commit: 5 (t <= L or t <= H), 8, 9. "Fullness is judged on the tables as the call would leave them."
unfoldable pub judge_commit : Store → ℕ → List Write → Verdict
judge_commit st t ws =
    pick (either (leb t st.last) (leb t st.horizon)) (Refused (Late (max st.last st.horizon)))
    (pick (ltb most_pending (length (commit_store st t ws).pending)) (Refused PendingFull)
    (pick (ltb most_past (length (commit_store st t ws).past)) (Refused PastFull)
    Accepted))

-- ---- Gossip: 6 (prev > H), 7, 1, 10
-- "the smallest differing stamp" of two ascending lists
pub data Compared : Type 0 where
  same : Compared
  differ : ℕ → Compared

abbrev pub compared : List ℕ → List ℕ → Compared
compared [] [] = same
compared [] (y ∷ ys) = differ y
compared (x ∷ xs) [] = differ x
compared (x ∷ xs) (y ∷ ys) = pick (eqb x y) (compared xs ys) (differ (min x y))

-- "the stamps up to the smaller of curr and H" against "the known ones beyond prev up to there"
unfoldable pub against : Store → ℕ → ℕ → List ℕ → Compared
against st prev curr stamps =
    let upto = min curr st.horizon in
    compared (kept (λ s. leb s upto) stamps) (kept (λ s. both (ltb prev s) (leb s upto)) st.snapshots)

-- 7 where they differ, else v
abbrev pub agreed : Compared → Verdict → Verdict
agreed same v = v
agreed (differ s) v = Refused (Conflict s)

-- "Where curr <= H nothing changes."
unfoldable pub judge_gossip : Store → ℕ → ℕ → List ℕ → Verdict
judge_gossip st prev curr stamps =
    pick (ltb st.horizon prev) (Refused (Gap st.horizon))
    (agreed (against st prev curr stamps)
    (pick (leb curr st.horizon) Idle
    (pick (ltb most_snapshots (length (gossip_store st curr stamps).snapshots)) (Refused SnapshotsFull)
    Accepted)))

-- ---- Flush: 1, 11, 9. "No pending entry and nothing due: nothing changes."
unfoldable pub judge_flush : Store → ℕ → Verdict
judge_flush st p =
    pick (both (empty_b (kept (of_page p) st.pending)) (empty_b (dues st p st.snapshots))) Idle
    (pick (ltb most_copies (length (flush_store st p).copies)) (Refused ArchiveFull)
    (pick (ltb most_past (length (flush_store st p).past)) (Refused PastFull)
    Accepted))

abbrev pub judge : Store → Change → Verdict
judge st (commit t ws) = judge_commit st t ws
judge st (gossip prev curr stamps) = judge_gossip st prev curr stamps
judge st (flush p) = judge_flush st p
