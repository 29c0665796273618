-- The last of a step is up to the horizon, and so are all before it.
use Prim.Native.Nat.{ℕ, suc, ◌+◌, ◌*◌}
use mathlib.Core.Path.{◌≡◌, subst}
use native.Mathlib.Omega.{arith}
use lib.Dec.{ltb}
use lib.ListN.{drop}
use Rattle.model.specs.Lists.{kept}
use Rattle.gossips.proofs.Rising.{none_beyond}
use Rattle.gossips.proofs.leap.Goals as goal

pub loop-k-preserved : goal.loop-k-preserved
loop-k-preserved c =
    let a = c.args in
    let k = c.loop-k.k in
    let e : suc (8 * k + 7) ≡ 8 * (k + 1) = omega arith in
    subst (λ (j : ℕ). kept (ltb a.horizon) a.stamps.now ≡ kept (ltb a.horizon) (drop j a.stamps.now)) e (none_beyond a.horizon 0 a.stamps.now (8 * k + 7) (omega arith) c.requires c.if-horizon-stamps.false)
