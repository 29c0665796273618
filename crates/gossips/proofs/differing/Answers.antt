-- The stamps ahead against the known snapshots ahead say what the whole lists say.
use mathlib.Core.Path.{◌≡◌, ap, ◌∙◌}
use mathlib.Core.Bool.{true}
use lib.ListN.{length, take, drop}
use Prim.Native.Nat.{◌-◌}
use Rattle.model.specs.Lists.{rising_from}
use Rattle.model.specs.Judgement.{compared}
use Rattle.gossips.proofs.Ahead.{rest}
use Rattle.gossips.proofs.Rising.{rises_drop, rest_none}
use Rattle.gossips.proofs.Comparing.{ahead, heard_starts, none_heard}
use Rattle.gossips.proofs.differing.Goals as goal

pub loop-i-init : goal.loop-i-init
loop-i-init c =
    let a = c.args in
    let k = c.count_known in
    ap (λ l. compared (ahead a.upto a.stamps.now 0) (ahead a.upto l 0)) (rest a.known.now k.result)
    ∙ ap (compared (ahead a.upto a.stamps.now 0)) (heard_starts a.prev a.upto a.known.now k.result k.ensures.0)

-- from a snapshot beyond the bound on all are
pub returns-then-upto-y : goal.returns-then-upto-y
returns-then-upto-y c =
    let a = c.args in
    let r : rising_from 0 (take (length a.known.now - c.count_known.result) (drop c.count_known.result a.known.now)) ≡ true =
    rw (rest a.known.now c.count_known.result) (rises_drop 0 a.known.now c.count_known.result c.requires.1) in
    none_heard a.stamps.now a.upto c.loop-i.i c.told.result c.told.ensures (rest_none a.upto 0 _ c.loop-i.i c.loop-i-test.true r c.if-upto-y.true) c.loop-i.invariant
