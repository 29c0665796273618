-- The rows judged so far are judged by the test, and the last search is kept with the end that it was made for.
use Prim.Native.Nat.{ℕ, ◌+◌}
use mathlib.Core.Bool.{Bool, true}
use mathlib.Core.Path.{◌≡◌, sym, ap, ◌∙◌}
use mathlib.Core.List.{map}
use native.Mathlib.Omega.{arith}
use lib.ListN.{length, take, drop, set, length-set, length-map, length-drop, get_or-map}
use lib.Seq.{get_or-drop}
use Rattle.tables.specs.Rows.{pasts}
use Rattle.tables.specs.Lookups.{last_before}
use Rattle.tables.proofs.Rows.{pasts_length}
use Rattle.tables.proofs.Compacts.{no_past, copied}
use Rattle.tables.proofs.dropping.judged.Invariants.{test}
use Rattle.tables.proofs.dropping.judged.Goals as goal
use Rattle.tables.proofs.dropping.judged.Goals.{Joined-in_scope, then-in_scope, then-q-until, else-q-until, else-in_scope}

-- one row more is judged
more : (c : Joined-in_scope)
    → let f = test c.args.scope c.args.horizon c.args.known c.args.snapshots.now c.args.marks.now in (b : Bool) → b ≡ f c.past_at-q.result
    → (length (set c.loop-i.stay c.loop-i.i b) ≡ 16) × (take (c.loop-i.i + 1) (set c.loop-i.stay c.loop-i.i b) ≡ take (c.loop-i.i + 1) (map f (drop c.args.from (pasts c.args.t.now))))
more c b e =
    let v = c.loop-i in
    let a = c.args in
    let f = test a.scope a.horizon a.known a.snapshots.now a.marks.now in
    let ps = pasts a.t.now in
    let qs = drop a.from ps in
    let q = c.past_at-q.ensures ∙ sym (get_or-drop a.from ps v.i no_past) in (
      simp length-set v.invariant.0,
      copied v.stay (map f qs) v.i (f no_past) b (omega arith)
          (omega (arith, length-map qs f, length-drop a.from ps, pasts_length a.t.now 256 (omega arith))) v.invariant.1 (e ∙ ap f q ∙ sym (get_or-map f qs v.i no_past)),
    )

pub loop-i-preserved : goal.loop-i-preserved
loop-i-preserved c =
    let v = c.loop-i in
    let a = c.args in
    let known = take a.known a.snapshots.now in
    let last = λ (u : ℕ). last_before known u in
    let j = (goal.at.loop-i-preserved c).Joined-in_scope in
    elim c.if-in_scope.branch [
      | then-in_scope w ↦
          let s : (w.if-q-until.s ≡ last w.if-q-until.until) × (w.if-q-until.s ≡ last c.past_at-q.result.until) = elim w.if-q-until.branch [
            | then-q-until x ↦ let e = x.s-is ∙ x.last_before-s.ensures in (e ∙ ap last (sym x.until-is), e)
            | else-q-until x ↦ let e = x.s-is ∙ v.invariant.2 in (e ∙ ap last (sym x.until-is), e ∙ ap last (sym x.if-q-until.false))
          ] in
          let m = more j w.stays.result (w.stays.ensures a.scope known (sym c.in_scope.ensures ∙ w.if-in_scope.true) s.1) in
          rw (w.stay-is, w.s-is, w.until-is) (m.0, m.1, s.0)
      | else-in_scope w ↦
          let o = sym c.in_scope.ensures ∙ w.if-in_scope.false in
          let m = more j true (rw o) in
          rw (w.stay-is, w.s-is, w.until-is) (m.0, m.1, v.invariant.2)
    ]
