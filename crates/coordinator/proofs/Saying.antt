-- What was sent, and what each test of a message or a request settles.
use Prim.Native.Nat.{ℕ, max, ◌≤◌, ◌<◌}
use mathlib.Core.Path.{◌≡◌, refl, ap, ◌∙◌}
use mathlib.Core.Bool.{true, false}
use mathlib.Core.List.{List}
use native.Mathlib.Omega.{arith}
use lib.ListN.{length, take}
use borrow.Author.Tests.{le-leb, lt-leb}
use Rattle.model.specs.declared.Answer.{Answer}
use Rattle.model.specs.declared.Answer.TheVariants.{Done, Damaged, Shape, Malformed}
use Rattle.model.specs.Bytes.{write_at}
use Rattle.model.specs.Changes.{gossip}
use Rattle.model.specs.Records.{encode}
use Rattle.model.specs.Coordinator.{Coordinator, coordinator_damaged, stamps_in, curr_of, curr_for, message_for, message_answer, message}
use Rattle.model.specs.Exchange.{Requested, no_request, request, served}
use Rattle.journal.specs.Places.{Moved}
use Rattle.std.specs.Prelude.{Some, None}
use Rattle.requests.specs.Asking.{asked}
use Rattle.requests.specs.declared.Request.{Request}
use Rattle.coordinator.specs.States.{Wrote}
use Rattle.coordinator.specs.Messages.{Speaks}
use Rattle.coordinator.proofs.States.{none_both}

-- the message stands at the front of the buffer j, which is j' then
pub record Told (k : Coordinator) (prev clock : ℕ) (j : List ℕ) (size curr : ℕ) (j' : List ℕ) : Type 0 where
  pub written : j' ≡ write_at 0 (encode (message_for k prev clock)) j
  pub size_is : size ≡ length (encode (message_for k prev clock))
  pub curr_is : curr ≡ curr_for k prev clock

-- ---- the message's stamps and curr, written as a gossip record
pub told : (k : Coordinator) (prev clock : ℕ) {j j' stamps g : List ℕ} {curr size : ℕ} → g ≡ k.granted → Speaks g prev clock stamps curr
    → Moved (encode (gossip prev curr stamps)) j 0 j' size → Told k prev clock j size curr j'
unfolding message_for
told k prev clock {j} {j'} {stamps} {g} {curr} {size} e c m =
    let chosen = c.chosen ∙ ap (λ (l : List ℕ). take 16 (stamps_in prev clock l)) e in
    let curr_is = c.curr_is ∙ ap (λ (l : List ℕ). curr_of (stamps_in prev clock l) clock) e in
    let same : gossip prev curr stamps ≡ message_for k prev clock = λ i. gossip prev (curr_is i) (chosen i) in
    record {
      written = m.journal ∙ ap (λ x. write_at 0 (encode x) j) same;
      size_is = omega (arith, m.place) ∙ ap (λ x. length (encode x)) same;
      curr_is = curr_is;
    }

-- ---- a message's answers in their order
module _ (k : Coordinator) (prev clock : ℕ) (buffer : List ℕ) where
  pub say_damaged : coordinator_damaged k ≡ true → Wrote (message k prev clock buffer) Damaged k buffer
  unfolding message message_answer
  say_damaged e = rw e (record { answered = refl; holds = refl; filled = refl })

  module _ (e : coordinator_damaged k ≡ false) where
    pub say_small : length buffer < 148 → Wrote (message k prev clock buffer) Shape k buffer
    unfolding message message_answer
    say_small h = rw (e, lt-leb 148 (length buffer) h) (record { answered = refl; holds = refl; filled = refl })

    pub say_backward : clock < prev → Wrote (message k prev clock buffer) Shape k buffer
    unfolding message message_answer
    say_backward h = rw (e, lt-leb prev clock h, none_both) (record { answered = refl; holds = refl; filled = refl })

    pub say_told : 148 ≤ length buffer → prev ≤ clock → {size curr : ℕ} {buffer' : List ℕ} → Told k prev clock buffer size curr buffer'
        → Wrote (message k prev clock buffer) (Done size) (record { granted = k.granted; sent = max k.sent curr }) buffer'
    unfolding message message_answer
    say_told h l t =
        rw (e, le-leb 148 (length buffer) h, le-leb prev clock l, t.size_is, t.curr_is, t.written) (record { answered = refl; holds = refl; filled = refl })

-- ---- a request's
module _ (k : Coordinator) (buffer : List ℕ) where
  pub serve_for : (q : Requested) (from to : ℕ) {a : Answer} {k' : Coordinator} {buffer' : List ℕ} → Some (record { from = from; to = to }) ≡ asked q
      → Wrote (message k from to buffer) a k' buffer' → Wrote (served q k buffer) a k' buffer'
  serve_for no_request from to e w = absurd (cc)
  serve_for (request f t) from to e w =
      let r : ◌≡◌ {A = Request} (record { from = f; to = t }) (record { from = from; to = to }) = cc in
      let a : f ≡ from = ap (λ (r : Request). r.from) r in
      let b : t ≡ to = ap (λ (r : Request). r.to) r in
      rw (a, b) w

  pub serve_damaged : (q : Requested) → None ≡ asked q → coordinator_damaged k ≡ true → Wrote (served q k buffer) Damaged k buffer
  serve_damaged no_request e d = rw d (record { answered = refl; holds = refl; filled = refl })
  serve_damaged (request f t) e d = absurd (cc)

  pub serve_none : (q : Requested) → None ≡ asked q → coordinator_damaged k ≡ false → Wrote (served q k buffer) (Malformed 0) k buffer
  serve_none no_request e d = rw d (record { answered = refl; holds = refl; filled = refl })
  serve_none (request f t) e d = absurd (cc)
