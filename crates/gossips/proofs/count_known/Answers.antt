-- No stamp passed is beyond the horizon; from the first that is, all are.
use mathlib.Core.Path.{◌∙◌}
use native.Mathlib.Omega.{arith}
use Rattle.gossips.proofs.Rising.{rest_all}
use Rattle.gossips.proofs.count_known.Goals as goal

pub returns-then-horizon-stamps : goal.returns-then-horizon-stamps
returns-then-horizon-stamps c = let a = c.args in
    let v = c.loop-i in
    (v.invariant ∙ rest_all a.horizon 0 a.stamps.now v.i c.loop-i-test.true c.requires c.if-horizon-stamps.true, omega arith)
