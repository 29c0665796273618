-- Each return is the store's verdict by the tests before it.
use Prim.Native.Nat.{◌-◌, min}
use mathlib.Core.Path.{◌≡◌, ap, sym, ◌∙◌}
use native.Mathlib.Omega.{arith}
use lib.ListN.{length, length-drop}
use lib.Dec.{ltb}
use Rattle.model.specs.declared.Answer.TheVariants.{Gap}
use Rattle.model.specs.declared.Verdict.TheVariants.{Refused}
use Rattle.model.specs.Lists.{kept}
use Rattle.model.specs.Store.{Store}
use Rattle.model.specs.Judgement.{against}
use Rattle.tables.proofs.Rising.{rises_low}
use Rattle.gossips.specs.Promises.{differing_in}
use Rattle.gossips.proofs.Saying.{against_said, say_gap, say_conflict, say_idle, say_full, say_accepted}
use Rattle.gossips.proofs.judge.Goals as goal
use Rattle.gossips.proofs.judge.Goals.{After-differing, After-count_known}

pub differing-requires : goal.differing-requires
differing-requires c = (rises_low c.args.prev 0 c.args.stamps.now c.requires.rising.0 (omega arith), c.requires.rising.1)

pub count_known-requires : goal.count_known-requires
count_known-requires c = rises_low c.args.prev 0 c.args.stamps.now c.requires.rising.0 (omega arith)

pub returns-then-horizon-prev : goal.returns-then-horizon-prev
returns-then-horizon-prev c = λ st f g. ap (λ h. Refused (Gap h)) (sym g) ∙ say_gap st c.args.prev c.args.curr c.args.stamps.now (omega arith)

-- the comparison is the store's
said : (c : After-differing) (st : Store) → st.snapshots ≡ c.args.known.now → st.horizon ≡ c.args.horizon → differing_in (against st c.args.prev c.args.curr c.args.stamps.now) ≡ c.differing.result
said c st f g = against_said st c.args.prev c.args.curr c.args.stamps.now (c.min.ensures ∙ ap (min c.args.curr) (sym g)) f c.differing.ensures

-- the stamps that aren't known lie beyond the horizon
beyond : (c : After-count_known) → length (kept (ltb c.args.horizon) c.args.stamps.now) ≡ length c.args.stamps.now - c.count_known.result
beyond c = ap length c.count_known.ensures.0 ∙ length-drop c.count_known.result c.args.stamps.now

pub returns-in-Some : goal.returns-in-Some
returns-in-Some c = λ st f g. say_conflict st c.args.prev c.args.curr c.args.stamps.now (omega arith) _ (said (goal.at.returns-in-Some c).After-differing st f g ∙ c.in-Some.is)

pub returns-then-curr-horizon : goal.returns-then-curr-horizon
returns-then-curr-horizon c = λ st f g. say_idle st c.args.prev c.args.curr c.args.stamps.now (omega arith) (said (goal.at.returns-then-curr-horizon c).After-differing st f g ∙ c.in_default.is) (omega arith)

pub returns-then-known-stamps : goal.returns-then-known-stamps
returns-then-known-stamps c = λ st f g.
    let b = beyond (goal.at.returns-then-known-stamps c).After-count_known in
    say_full st c.args.prev c.args.curr c.args.stamps.now (omega arith) (said (goal.at.returns-then-known-stamps c).After-differing st f g ∙ c.in_default.is) (omega arith) (rw (f, g) (omega (arith, b, c.if-known-stamps.true)))

pub returns : goal.returns
returns c = λ st f g.
    let b = beyond (goal.at.returns c).After-count_known in
    say_accepted st c.args.prev c.args.curr c.args.stamps.now (omega arith) (said (goal.at.returns c).After-differing st f g ∙ c.in_default.is) (omega arith) (rw (f, g) (omega (arith, b, c.if-known-stamps.false)))
