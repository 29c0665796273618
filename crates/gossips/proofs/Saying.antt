-- What the store says of a message, by the tests that the code makes in turn.
use Rattle.std.specs.Prelude.{Option, Some, None}
use Prim.Native.Nat.{ℕ, ◌+◌, ◌<◌, ◌≤◌, min}
use mathlib.Core.Path.{◌≡◌, sym}
use mathlib.Core.List.{List}
use lib.ListN.{length, length-append}
use lib.Dec.{ltb, leb}
use borrow.Author.Tests.{lt-ltb, le-ltb, le-leb, lt-leb}
use Rattle.model.specs.declared.Answer.TheVariants.{Gap, Conflict, SnapshotsFull}
use Rattle.model.specs.declared.Verdict.TheVariants.{Accepted, Idle, Refused}
use Rattle.model.specs.Lists.{both, kept}
use Rattle.model.specs.Store.{Store}
use Rattle.model.specs.Changes.{gossip_store}
use Rattle.model.specs.Judgement.{compared, against, judge_gossip}
use Rattle.model.specs.Judgement as judgement
use Rattle.gossips.specs.Promises.{differing_in}

-- ---- the comparison, from the code's answer
as_differ : (w : judgement.Compared) (s : ℕ) → differing_in w ≡ Some s → w ≡ judgement.differ s
as_differ judgement.same s e = cc
as_differ (judgement.differ t) s e = cc

as_same : (w : judgement.Compared) → differing_in w ≡ None → w ≡ judgement.same
as_same judgement.same e = cc
as_same (judgement.differ t) e = cc

module _ (st : Store) (prev curr : ℕ) (stamps : List ℕ) where
  -- of the known snapshots
  pub against_said : {u : ℕ} {known : List ℕ} {x : Option ℕ} → u ≡ min curr st.horizon → st.snapshots ≡ known
      → x ≡ differing_in (compared (kept (λ s. leb s u) stamps) (kept (λ s. both (ltb prev s) (leb s u)) known)) → differing_in (against st prev curr stamps) ≡ x
  unfolding against
  against_said e f g = sym (rw (e, ← f) at g)

  pub say_gap : st.horizon < prev → Refused (Gap st.horizon) ≡ judge_gossip st prev curr stamps
  unfolding judge_gossip
  say_gap l = rw (lt-ltb _ _ l)

  module _ (l : prev ≤ st.horizon) where
    pub say_conflict : (s : ℕ) → differing_in (against st prev curr stamps) ≡ Some s → Refused (Conflict s) ≡ judge_gossip st prev curr stamps
    unfolding judge_gossip
    say_conflict s e = rw (le-ltb _ _ l, as_differ (against st prev curr stamps) s e)

    module _ (e : differing_in (against st prev curr stamps) ≡ None) where
      pub say_idle : curr ≤ st.horizon → Idle ≡ judge_gossip st prev curr stamps
      unfolding judge_gossip
      say_idle h = rw (le-ltb _ _ l, as_same (against st prev curr stamps) e, le-leb _ _ h)

      module _ (h : st.horizon < curr) where
        pub say_full : 64 < length st.snapshots + length (kept (ltb st.horizon) stamps) → Refused SnapshotsFull ≡ judge_gossip st prev curr stamps
        unfolding judge_gossip gossip_store
        say_full f = rw (le-ltb _ _ l, as_same (against st prev curr stamps) e, lt-leb _ _ h, length-append st.snapshots (kept (ltb st.horizon) stamps), lt-ltb _ _ f)

        pub say_accepted : length st.snapshots + length (kept (ltb st.horizon) stamps) ≤ 64 → Accepted ≡ judge_gossip st prev curr stamps
        unfolding judge_gossip gossip_store
        say_accepted f = rw (le-ltb _ _ l, as_same (against st prev curr stamps) e, lt-leb _ _ h, length-append st.snapshots (kept (ltb st.horizon) stamps), le-ltb _ _ f)
