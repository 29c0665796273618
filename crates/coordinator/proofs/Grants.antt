-- The state with one stamp more, the highest stamp, and what each test of a grant settles.
use Prim.Native.Nat.{ℕ, suc, ◌+◌, ◌-◌, max, ◌≤◌, ◌<◌}
use mathlib.Core.Path.{◌≡◌, refl, ap, sym, ◌∙◌}
use mathlib.Core.Bool.{true, false}
use mathlib.Core.List.{List, [], ◌∷◌, ◌++◌}
use native.Mathlib.Numerals.{add-one}
use native.Mathlib.Omega.{arith}
use lib.ListN.{length, get_or, set, length-set, drop_of_length-le}
use lib.Seq.{take-suc-set}
use borrow.Author.Tests.{lt-ltb, le-ltb, le-leb, lt-leb}
use Rattle.model.specs.declared.Answer.TheVariants.{Done, Damaged, Shape, Late, SnapshotsFull}
use Rattle.model.specs.Limits.{last_tick}
use Rattle.model.specs.Lists.{rising_from}
use Rattle.model.specs.Coordinator.{Coordinator, highest, top, coordinator_damaged, stamp_of, grant_answer, grant}
use Rattle.tables.specs.Rows.{up_to}
use Rattle.tables.proofs.Counts.{up_to_take}
use Rattle.coordinator.specs.declared.State.{State}
use Rattle.coordinator.specs.States.{held, Granted}
use Rattle.coordinator.proofs.States.{granted_is, none_both, highest_last}

-- ---- one stamp more
pub added : (s : State) (t : ℕ) → length s.stamps ≡ 64 → s.count < 64
    → held (record { count = s.count + 1; sent = s.sent; stamps = set s.stamps s.count t }) ≡ record { granted = (held s).granted ++ (t ∷ []); sent = s.sent }
added s t l h =
    let n = s.count in
    let few : n < length s.stamps = omega arith in
    let more : suc n ≤ length (set s.stamps n t) = simp length-set (omega arith) in
    let all : up_to 0 (suc n) (set s.stamps n t) ≡ (held s).granted ++ (t ∷ []) =
    up_to_take 0 (suc n) (set s.stamps n t) more ∙ take-suc-set s.stamps n t few ∙ ap (λ g. g ++ (t ∷ [])) (sym (granted_is s l (omega arith))) in
    rw (add-one, all)

-- ---- the highest of the stamps and what was sent
module _ (g : List ℕ) (sent : ℕ) where
  pub top_none : length g ≡ 0 → sent ≡ max (highest g) sent
  top_none e = let few : length g ≤ 0 = omega arith in let none : g ≡ [] = drop_of_length-le g few in rw none (omega arith)

pub top_is : (g : List ℕ) (sent : ℕ) → rising_from 0 g ≡ true → 0 < length g → max sent (get_or g (length g - 1) 0) ≡ max (highest g) sent
top_is g sent r h = omega (arith, (highest_last 0 g r h).1)

-- ---- a grant's answers in their order
module _ (k : Coordinator) (tick node : ℕ) where
  pub say_damaged : coordinator_damaged k ≡ true → Granted (grant k tick node) Damaged k
  unfolding grant grant_answer
  say_damaged e = rw e (record { answered = refl; holds = refl })

  module _ (e : coordinator_damaged k ≡ false) where
    pub say_tick : last_tick < tick → Granted (grant k tick node) Shape k
    unfolding grant grant_answer
    say_tick h = rw (e, lt-leb tick last_tick h) (record { answered = refl; holds = refl })

    pub say_node : 256 ≤ node → Granted (grant k tick node) Shape k
    unfolding grant grant_answer
    say_node h = rw (e, le-ltb node 256 h, none_both) (record { answered = refl; holds = refl })

    module _ (t : tick ≤ last_tick) (n : node < 256) where
      pub say_late : stamp_of tick node ≤ top k → Granted (grant k tick node) (Late (top k)) k
      unfolding grant grant_answer
      say_late h = rw (e, le-leb tick last_tick t, lt-ltb node 256 n, le-leb (stamp_of tick node) (top k) h) (record { answered = refl; holds = refl })

      module _ (l : top k < stamp_of tick node) where
        pub say_full : 64 ≤ length k.granted → Granted (grant k tick node) SnapshotsFull k
        unfolding grant grant_answer
        say_full h =
            rw (e, le-leb tick last_tick t, lt-ltb node 256 n, lt-leb (stamp_of tick node) (top k) l, le-leb 64 (length k.granted) h)
            (record { answered = refl; holds = refl })

        pub say_granted : length k.granted < 64
            → Granted (grant k tick node) (Done (stamp_of tick node)) (record { granted = k.granted ++ (stamp_of tick node ∷ []); sent = k.sent })
        unfolding grant grant_answer
        say_granted h =
            rw (e, le-leb tick last_tick t, lt-ltb node 256 n, lt-leb (stamp_of tick node) (top k) l, lt-leb 64 (length k.granted) h)
            (record { answered = refl; holds = refl })
