-- Document 01, "Numbers answered", Order: where two refusals meet, the earlier one is answered.
use Prim.Native.Nat.{ℕ}
use mathlib.Core.Path.{◌≡◌}
use mathlib.Core.Bool.{true, false}
use mathlib.Core.List.{List}
use lib.ListN.{length}
use lib.Dec.{ltb, leb}
use Rattle.model.specs.declared.Answer.TheVariants.{PendingFull, ArchiveFull, Ahead}
use Rattle.model.specs.declared.Verdict.TheVariants.{Refused}
use Rattle.model.specs.Limits.{most_pending, most_copies}
use Rattle.model.specs.Lists.{both, either, kept, empty_b}
use Rattle.model.specs.Store.{Store}
use Rattle.model.specs.Damage.{damaged}
use Rattle.model.specs.Changes.{Write, commit_store, flush_store, dues, of_page}
use Rattle.model.specs.Judgement.{judge_commit, judge_flush}
use Rattle.model.specs.Reads.{snapshot_answer}

-- 8 before 9, whatever the past values are
pub pending_before_past : (st : Store) (t : ℕ) (ws : List Write) → either (leb t st.last) (leb t st.horizon) ≡ false
    → ltb most_pending (length (commit_store st t ws).pending) ≡ true → judge_commit st t ws ≡ Refused PendingFull
unfolding judge_commit
pending_before_past st t ws e f = rw (e, f)

-- 11 before 9
pub archive_before_past : (st : Store) (p : ℕ) → both (empty_b (kept (of_page p) st.pending)) (empty_b (dues st p st.snapshots)) ≡ false
    → ltb most_copies (length (flush_store st p).copies) ≡ true → judge_flush st p ≡ Refused ArchiveFull
unfolding judge_flush
archive_before_past st p e f = rw (e, f)

-- 13 before 14, whatever snapshots are known
pub ahead_before_none : (st : Store) (time : ℕ) → damaged st ≡ false → ltb st.horizon time ≡ true → snapshot_answer st true time ≡ Ahead st.horizon
unfolding snapshot_answer
ahead_before_none st time e f = rw (e, f)
