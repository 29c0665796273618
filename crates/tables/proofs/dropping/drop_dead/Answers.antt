-- Of the rows passed, those that stay are in front; the rows not passed yet are as they were.
use Prim.Native.Nat.{ℕ, ◌+◌, ◌-◌}
use mathlib.Core.Path.{◌≡◌, subst}
use native.Mathlib.Omega.{arith}
use lib.ListN.{length, take}
use lib.Seq.{length-take-le}
use borrow.Author.Rules.{rules}
use Rattle.tables.specs.Rows.{pasts}
use Rattle.tables.proofs.Rows.{pasts_length}
use Rattle.tables.proofs.Blocks.{Passed, turned, over}
use Rattle.tables.proofs.dropping.drop_dead.Invariants.{test}
use Rattle.tables.proofs.dropping.drop_dead.Goals as goal
use Rattle.tables.proofs.dropping.drop_dead.Goals.{After-drop_some-at}

abbrev Now : (c : After-drop_some-at) → ℕ → Type 0
Now c i =
    Passed (test c.args.scope c.args.horizon c.args.known c.args.snapshots.now c.args.marks.now) (pasts c.args.t.now) (pasts c.drop_some-at.new.t) c.drop_some-at.result i

-- sixteen rows more are passed, or as many as are left
one : (c : After-drop_some-at) (m : ℕ) → c.min-some.result ≡ m → Now c (c.loop-from.from + m)
one c m e =
    let a = c.args in
    let v = c.loop-from in
    let j = c.judged-stay in
    let d = c.drop_some-at in
    let f = test a.scope a.horizon a.known a.snapshots.now a.marks.now in
    let l : length j.result ≡ 16 = search rules in
    let n = length-take-le c.min-some.result j.result (omega (arith, l, c.min-some.ensures)) in
    subst (λ (k : ℕ). Now c (v.from + k)) e
    (turned f (pasts a.t.now) (pasts v.t) v.at v.from v.invariant.2 c.min-some.result (take c.min-some.result j.result) (pasts d.new.t) d.result n j.ensures d.ensures)

pub loop-from-preserved : goal.loop-from-preserved
loop-from-preserved c = (omega arith, c.drop_some-at.array_long, one (goal.at.loop-from-preserved c).After-drop_some-at 16 (omega (arith, c.min-some.ensures)))

pub returns-2 : goal.returns-2
returns-2 c =
    let l = pasts_length c.drop_some-at.new.t 256 (omega arith) in
    let p = one (goal.at.returns-2 c).After-drop_some-at (c.args.n - c.loop-from.from) (omega (arith, c.min-some.ensures)) in
    let o = over _ _ _ _ _ p c.args.n (omega arith) (omega (arith, l)) in
    (o.0, o.1, l)

pub returns : goal.returns
returns c =
    let l = pasts_length c.loop-from.t 256 c.loop-from.invariant.1 in
    let o = over _ _ _ _ _ c.loop-from.invariant.2 c.args.n (omega (arith, c.loop-from.invariant.0)) (omega (arith, l)) in
    (o.0, o.1, l)
