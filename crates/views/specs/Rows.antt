-- The rows that show: past values as of the stamps of their spans, pending entries now and from their latest stamps on.
use Rattle.std.specs.Prelude.{ℕ, ◌≤◌, ◌<◌, ◌≡◌, Bool, true, false, Option, Some, None, leb, ltb}
use Rattle.std.proofs.Common.{arith}
use Rattle.model.specs.declared.Pending.{Pending}
use Rattle.model.specs.declared.Past.{Past}
use Rattle.model.specs.Store.{in_span}
use borrow.Author.Tests.{lt-leb, le-leb, le-ltb, ltb-false}

-- no past value is current
abbrev pub covers_by : Option ℕ → Past → Bool
covers_by None q = false
covers_by (Some s) q = in_span s q

abbrev pub shows_by : Option ℕ → Pending → Bool
shows_by None e = true
shows_by (Some s) e = leb e.latest s

-- ---- what is shown from its own stamp on, up to an end
pub covers_early : (q : Past) (s : ℕ) → s < q.from → covers_by (Some s) q ≡ false
covers_early q s h = rw (lt-leb q.from s h)

pub covers_over : (q : Past) (s t : ℕ) → q.from ≤ s → s ≤ t → covers_by (Some s) q ≡ false → covers_by (Some t) q ≡ false
covers_over q s t h m e =
    let a : ltb s q.until ≡ false = rw (le-leb q.from s h) at e in
    let b : q.until ≤ t = omega (arith, ltb-false s q.until a) in
    let c : q.from ≤ t = omega arith in
    rw (le-leb q.from t c) (le-ltb t q.until b)

pub shows_early : (e : Pending) (s : ℕ) → s < e.latest → shows_by (Some s) e ≡ false
shows_early e s h = lt-leb e.latest s h

pub shows_over : (e : Pending) (s t : ℕ) → e.latest ≤ s → s ≤ t → shows_by (Some s) e ≡ false → shows_by (Some t) e ≡ false
shows_over e s t h m q = let z = rw (le-leb e.latest s h) at q in cc
