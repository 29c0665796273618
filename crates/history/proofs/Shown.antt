-- What the reads answer and show after a history of accepted changes.
use Prim.Native.Nat.{ℕ, ◌≤◌, ◌<◌}
use mathlib.Core.Path.{◌≡◌, ap, sym, ◌∙◌, subst}
use mathlib.Core.Bool.{true}
use mathlib.Core.List.{List}
use native.Mathlib.Omega.{arith}
use lib.ListN.{length}
use borrow.Author.Tests.{lt-ltb, eq-eqb}
use Rattle.model.specs.declared.Answer.TheVariants.{Done, Ahead, NoSnapshot}
use Rattle.model.specs.Answers.{code_of, number_of}
use Rattle.model.specs.Store.{object_at, page16, page_as_of}
use Rattle.model.specs.Changes.{Change}
use Rattle.model.specs.Reads.{read_shaped, largest, snapshot_read, current_read}
use Rattle.history.specs.History.{replay, AllAccepted, latest, horizon_of, told_b, Newest, last_of}
use Rattle.history.proofs.Laws.{by_le, both_yes}
use Rattle.history.proofs.Kept.{never_damaged}
use Rattle.history.proofs.Largest.{largest_bound, largest_least, largest_known}
use Rattle.history.proofs.Latest.{page_latest, largest_stands, now_latest}
use Rattle.history.proofs.Told.{known_told, horizon_told, last_told}
use Rattle.history.proofs.Answered.{answer_ahead, answer_none, answer_done, now_done}

module _ (h : List Change) (g : AllAccepted h) where
  -- the largest known snapshot at or before a time is the newest told, if there is one
  pub largest_newest : (time : ℕ) → 0 < largest time (replay h).snapshots → Newest h time (largest time (replay h).snapshots)
  largest_newest time l =
      let known = (replay h).snapshots in
      record {
        told = sym (known_told h g (largest time known)) ∙ largest_known time known l;
        before = largest_bound time known;
        newest = λ u t m. largest_least time u known (known_told h g u ∙ t) m;
      }

  pub newest_largest : (time s : ℕ) → Newest h time s → (largest time (replay h).snapshots ≡ s) × (0 < s)
  newest_largest time s n =
      let known = (replay h).snapshots in
      let a = largest_stands h g time s (known_told h g s ∙ n.told) n.before in
      let z = largest_newest time a.0 in
      let q : largest time known ≡ s = omega (arith, n.newest (largest time known) z.told z.before, z.newest s n.told n.before) in
      (q, omega arith)

  -- with a snapshot told at or before a time, there is a newest
  pub newest_stands : (time u : ℕ) → told_b u h ≡ true → u ≤ time → (s : ℕ) × Newest h time s
  newest_stands time u t l =
      (largest time (replay h).snapshots, largest_newest time (largest_stands h g time u (known_told h g u ∙ t) l).0)

  module _ (p : ℕ) (buffer : List ℕ) (b : p < 32) (n : length buffer ≡ 16) where
    good_page : read_shaped p buffer ≡ true
    good_page = both_yes (lt-ltb p 32 b) (eq-eqb (length buffer) 16 n)

    -- ---- a snapshot read: Ahead, or No snapshot, or the page of the latest writes at or before the newest snapshot
    pub read_ahead : (time : ℕ) → horizon_of h < time → snapshot_read (replay h) time p buffer ≡ record { answer = Ahead (horizon_of h); buffer = buffer }
    read_ahead time l =
        let e = horizon_told h in
        answer_ahead (replay h) (never_damaged h g) true p buffer good_page time (omega arith) ∙ ap (λ x. record { answer = Ahead x; buffer = buffer }) e

    pub read_none : (time : ℕ) → time ≤ horizon_of h → ((u : ℕ) → told_b u h ≡ true → u ≤ time → ⊥)
        → snapshot_read (replay h) time p buffer ≡ record { answer = NoSnapshot; buffer = buffer }
    read_none time l k =
        let e = horizon_told h in
        let s = largest time (replay h).snapshots in
        answer_none (replay h) (never_damaged h g) true p buffer good_page time (omega arith)
        (by_le s 0 (λ m. omega arith) (λ m. let w = largest_newest time m in absurd (k s w.told w.before)))

    pub read_shows : (time s : ℕ) → time ≤ horizon_of h → Newest h time s
        → snapshot_read (replay h) time p buffer ≡ record { answer = Done s; buffer = page16 (λ k. (latest h (object_at p k) s).value) }
    read_shows time s l w =
        let e = horizon_told h in
        let z = newest_largest time s w in
        let q = z.0 in
        answer_done (replay h) (never_damaged h g) true p buffer good_page time (omega arith) (omega arith)
        ∙ ap (λ x. record { answer = Done x; buffer = page_as_of (replay h) p x }) q
        ∙ ap (λ l. record { answer = Done s; buffer = l }) (page_latest h g p s b (known_told h g s ∙ w.told))

    -- it answers Done in no other case
    pub read_done : (time s : ℕ) → (snapshot_read (replay h) time p buffer).answer ≡ Done s → (time ≤ horizon_of h) × Newest h time s
    read_done time s e =
        let q = horizon_told h in
        let d = never_damaged h g in
        let st = replay h in
        by_le time (horizon_of h)
        (λ l.
        by_le (largest time st.snapshots) 0
        (λ m.
        let x : NoSnapshot ≡ Done s = sym (ap (λ r. r.answer) (answer_none st d true p buffer good_page time (omega arith) (omega arith))) ∙ e in
        absurd (omega (arith, ap code_of x)))
        (λ m.
        let x : Done (largest time st.snapshots) ≡ Done s = sym (ap (λ r. r.answer) (answer_done st d true p buffer good_page time (omega arith) m)) ∙ e in
        (l, subst (λ u. Newest h time u) (ap number_of x) (largest_newest time m))))
        (λ l.
        let x : Ahead st.horizon ≡ Done s = sym (ap (λ r. r.answer) (answer_ahead st d true p buffer good_page time (omega arith))) ∙ e in
        absurd (omega (arith, ap code_of x)))

    -- ---- a current read: the page of the latest writes of all
    pub current_shows : (s : ℕ) → last_of h ≤ s → current_read (replay h) p buffer ≡ record { answer = Done 0; buffer = page16 (λ k. (latest h (object_at p k) s).value) }
    current_shows s l =
        let e = last_told h in
        now_done (replay h) (never_damaged h g) p buffer good_page
        ∙ ap (λ x. record { answer = Done 0; buffer = x }) (now_latest h g p s b (omega arith))
