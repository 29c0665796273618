-- The state's bytes, field by field; and what keep answers, test by test.
use Prim.Native.Nat.{ℕ, ◌+◌, ◌*◌, ◌<◌, ◌≤◌}
use mathlib.Core.Path.{◌≡◌, refl, ap, ◌∙◌}
use mathlib.Core.Bool.{true, false}
use mathlib.Core.List.{List}
use native.Mathlib.Omega.{arith}
use lib.ListN.{length}
use borrow.Author.Tests.{lt-ltb, le-ltb}
use Rattle.model.specs.declared.Answer.TheVariants.{Done, Damaged, Shape}
use Rattle.model.specs.Bytes.{be, write_at}
use Rattle.model.specs.Records.{stamp_bytes}
use Rattle.model.specs.Coordinator.{Coordinator, coordinator_damaged}
use Rattle.model.specs.CoordinatorBytes.{coordinator_bytes, keep_coordinator}
use Rattle.journal.specs.Places.{Moved}
use Rattle.journal.proofs.Places.{field_moved, moved_before, moved_then, stamps_length}
use Rattle.coordinator.specs.States.{Kept}

-- ---- sent, the version byte before it, the count and the stamps behind it are the state's bytes
module _ {j₁ j₂ j₃ j₄ : List ℕ} {end : ℕ} (s : ℕ) (ss b : List ℕ) (h : 10 + 8 * length ss ≤ length b) (sent : j₁ ≡ write_at 1 (be 8 s) b)
    (version : j₂ ≡ write_at 0 (be 1 1) j₁) (count : j₃ ≡ write_at 9 (be 1 (length ss)) j₂) (stamps : Moved (stamp_bytes ss) j₃ 10 j₄ end) where
  pub state_written : j₄ ≡ write_at 0 (coordinator_bytes (record { granted = ss; sent = s })) b
  unfolding coordinator_bytes
  state_written =
      let n = stamps_length ss in
      let sent_moved : Moved (be 8 s) b 1 j₁ 9 = field_moved 1 8 s refl sent in
      let head = moved_before sent_moved (field_moved 0 1 1 refl version) (omega arith) in
      let count_moved : Moved (be 1 (length ss)) j₂ 9 j₃ 10 = field_moved 9 1 (length ss) refl count in
      (moved_then (moved_then head count_moved (omega arith)) stamps (omega arith)).journal

-- ---- the answers
module _ (k : Coordinator) (b : List ℕ) where
  pub kept_damaged : coordinator_damaged k ≡ true → Kept (keep_coordinator k b) Damaged b
  unfolding keep_coordinator
  kept_damaged d = rw d (record { answered = refl; filled = refl })

  module _ (d : coordinator_damaged k ≡ false) where
    pub kept_short : length b < 522 → Kept (keep_coordinator k b) Shape b
    unfolding keep_coordinator
    kept_short l = rw (d, lt-ltb (length b) 522 l) (record { answered = refl; filled = refl })

    pub kept_done : {ss j : List ℕ} → 522 ≤ length b → ss ≡ k.granted → j ≡ write_at 0 (coordinator_bytes (record { granted = ss; sent = k.sent })) b
        → Kept (keep_coordinator k b) (Done (10 + 8 * length ss)) j
    unfolding keep_coordinator
    kept_done l e w =
        rw (d, le-ltb (length b) 522 l) (record {
          answered = ap (λ (l : List ℕ). Done (10 + 8 * length l)) e;
          filled = w ∙ ap (λ (l : List ℕ). write_at 0 (coordinator_bytes (record { granted = l; sent = k.sent })) b) e;
        })
