-- The rows so far, with those that the entries ahead leave, are all of them.
use Prim.Native.Nat.{◌≤◌}
use mathlib.Core.List.{[]}
use mathlib.Core.Path.{refl, ap, sym, ◌∙◌}
use native.Mathlib.Omega.{arith}
use lib.ListN.{length, length-set}
use Rattle.std.proofs.Common.{rules}
use Rattle.tables.specs.Rows.{pending_of, pendings, pasts}
use Rattle.tables.proofs.Rows.{pasts_length}
use Rattle.flushes.specs.Parts.{leaves_under, buried_in}
use Rattle.flushes.proofs.Turns.{add_room, add_yes, add_no, add_end}
use Rattle.flushes.proofs.settle.bury.Goals as goal
use Rattle.flushes.proofs.settle.bury.Goals.{then-leaves, else-leaves}

pub loop-number-init : goal.loop-number-init
loop-number-init c = (c.requires.m_bound.0, pasts_length _ _ (search rules), refl)

pub put_past-requires : goal.put_past-requires
put_past-requires c =
    let a = c.args in
    let w = a.w.now in
    let v = c.loop-number in
    let b : v.k ≤ length (pasts v.past) = omega arith in
    let l = add_room (pending_of []) (leaves_under w.disk w.dated a.snapshots.now a.rule) (buried_in w.disk w.dated) (pendings w.pending) a.numbers.now v.number-index (pasts v.past) v.k v.invariant.2
    c.loop-number-test.true c.pending_at-e.ensures (sym c.leaves.ensures ∙ c.if-leaves.true) b (omega arith) in
    omega arith

pub loop-number-preserved : goal.loop-number-preserved
loop-number-preserved c =
    let a = c.args in
    let w = a.w.now in
    let v = c.loop-number in
    let f = leaves_under w.disk w.dated a.snapshots.now a.rule in
    elim c.if-leaves.branch [
      | then-leaves b ↦
          let e = sym c.leaves.ensures ∙ b.if-leaves.true in
          let m : v.k ≤ length (pasts v.past) = omega arith in
          let l = add_room (pending_of []) f (buried_in w.disk w.dated) (pendings w.pending) a.numbers.now v.number-index (pasts v.past) v.k v.invariant.2 c.loop-number-test.true c.pending_at-e.ensures e m (omega arith) in
          rw (b.past-is, b.k-is) (
            omega arith,
            ap length b.put_past.ensures ∙ simp length-set v.invariant.1,
            add_yes (pending_of []) f (buried_in w.disk w.dated) (pendings w.pending) a.numbers.now v.number-index (pasts v.past) v.k v.invariant.2 c.loop-number-test.true c.pending_at-e.ensures e l b.buried-q.ensures b.put_past.ensures,
          )
      | else-leaves b ↦
          rw (b.past-is, b.k-is) (
            v.invariant.0,
            v.invariant.1,
            add_no (pending_of []) f (buried_in w.disk w.dated) (pendings w.pending) a.numbers.now v.number-index (pasts v.past) v.k v.invariant.2 c.loop-number-test.true c.pending_at-e.ensures (sym c.leaves.ensures ∙ b.if-leaves.false),
          )
    ]

pub returns-clause-rows : goal.returns-clause-rows
returns-clause-rows c =
    let a = c.args in
    let w = a.w.now in
    let v = c.loop-number in
    let e = add_end (pending_of []) (leaves_under w.disk w.dated a.snapshots.now a.rule) (buried_in w.disk w.dated) (pendings w.pending) a.numbers.now v.number-index (pasts v.past) v.k v.invariant.2 c.loop-number-test.false (omega arith) in
    record { rows = e.0; count = e.1 }
