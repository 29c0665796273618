-- Gossip keeps an object sound.
use Prim.Native.Nat.{ℕ, ◌<◌}
use mathlib.Core.Path.{◌≡◌, sym, ◌∙◌}
use mathlib.Core.Bool.{Bool, true}
use mathlib.Core.List.{List, ◌++◌}
use native.Mathlib.Omega.{arith}
use lib.Dec.{ltb, eqb}
use borrow.Author.Tests.{ltb-true}
use Rattle.model.specs.declared.Seen.{Seen}
use Rattle.model.specs.Lists.{any_b, kept, elem_b}
use Rattle.model.specs.Store.{Store, page_of, mark, holds_b, live_b}
use Rattle.model.specs.Changes.{gossip_store}
use Rattle.history.proofs.Laws.{either_cases}
use Rattle.history.proofs.Lists.{all_kept, kept_test, any_append, any_kept, all_elem}
use Rattle.history.proofs.Invariant.{TrueRow, SoundAt, Whole}
use Rattle.history.proofs.Sound.{needed_cases, needed_beyond, needed_known, live_needed}
use Rattle.history.proofs.Judged.{GossipOk}

-- a known stamp was known before, or lies beyond the old horizon
pub known_cases : {C : Type 0} (h : ℕ) (known stamps : List ℕ) (s : ℕ) → elem_b s (known ++ kept (ltb h) stamps) ≡ true → (elem_b s known ≡ true → C) → (h < s → C) → C
known_cases h known stamps s e f g =
    let t : ℕ → Bool = λ x. eqb x s in
    either_cases (any_b t known) (any_b t (kept (ltb h) stamps)) (sym (any_append t known (kept (ltb h) stamps)) ∙ e) f
    (λ k. g (ltb-true h s (all_elem (λ x. ltb h x ≡ true) s (kept (ltb h) stamps) k (kept_test (ltb h) stamps))))

pub gossip_sound : (o : ℕ) (L : ℕ → Seen) (st : Store) (prev curr : ℕ) (stamps : List ℕ) → Whole st → GossipOk st prev curr stamps → SoundAt o L st
    → SoundAt o L (gossip_store st curr stamps)
unfolding gossip_store
gossip_sound o L st prev curr stamps a c k =
    let h = st.horizon in
    let m = mark st.copies (page_of o) in
    let new = c.new in
    let known = st.snapshots ++ kept (ltb h) stamps in
    record {
      truth = k.truth;
      now = k.now;
      waits = k.waits;
      rows = all_kept (TrueRow L st.last o) (live_b curr known st.copies) st.past k.rows;
      covers = λ s n l e.
          k.covers s
          (needed_cases curr known m s n
          (λ b. needed_beyond h st.snapshots m s (omega arith))
          (λ b g. known_cases h st.snapshots stamps s b (λ d. needed_known h st.snapshots m s d g) (λ d. needed_beyond h st.snapshots m s d)))
          l
          (sym (any_kept (holds_b o s) (live_b curr known st.copies) (λ q f. live_needed curr known st.copies o s q n f) st.past) ∙ e);
      served = λ s e l. known_cases h st.snapshots stamps s e (λ d. k.served s d l) (λ d. absurd (omega (arith, a.marks (page_of o))));
    }
