-- An entry whose object is in the index brings fresh below 128, where it stays; until then every object was new, and the index tells of them all.
use Prim.Native.Nat.{◌<◌}
use mathlib.Core.Path.{◌≡◌, refl, ◌∙◌, sym, ap}
use mathlib.Core.Logic.{inl, inr, ⊎_elim}
use native.Mathlib.Omega.{arith}
use borrow.Author.Rules.{rules}
use lib.Bits.{and_le_l, and_le_r}
use lib.ListN.{length, get_or}
use borrow.Author.Tests.{lt-ltb, ltb-true, ltb-false}
use Rattle.rules.proofs.Marks.{again_start, again_met, again_new}
use Rattle.tables.specs.Rows.{pendings}
use Rattle.tables.proofs.Rows.{pendings_length}
use Rattle.damage.proofs.Laws.{Turn, objects_of, objects_length, object_at_lem, object_low}
use Rattle.tables.proofs.Cases.{by_test}
use Rattle.tables.proofs.Indexing.{any_default, index_start, row_none, index_more}
use Rattle.damage.proofs.met_again.Invariants.{marks, New, Met}
use Rattle.damage.proofs.met_again.Goals as goal
use Rattle.damage.proofs.met_again.Goals.{After-pending_at-object}

pub loop-i-init : goal.loop-i-init
loop-i-init c =
    let a = c.args in
    let p = c.requires in
    inl (
      refl,
      again_start 128 marks a.index.now (λ o. ap marks (p.2 o)) (objects_of a.n (pendings a.t.now)),
      index_start a.index.now (pendings a.t.now) (search rules) p.2,
    )

turn : (c : After-pending_at-object)
    → Turn c.args.n (pendings c.args.t.now) c.loop-i.i c.pending_at-object.result
turn c = record { rows = omega (arith, pendings_length c.args.t.now 128 (search rules)); inside = omega arith; entry = c.pending_at-object.ensures }

-- the entry's object has a place in the index
low : (c : After-pending_at-object) → c.pending_at-object.result.object < 512
low c = object_low (turn c) c.requires.1

-- it is the i-th of the objects
at : (c : After-pending_at-object)
    → get_or (objects_of c.args.n (pendings c.args.t.now)) c.loop-i.i 0 ≡ c.pending_at-object.result.object
at c = object_at_lem (turn c)

inside : (c : After-pending_at-object)
    → c.loop-i.i < length (objects_of c.args.n (pendings c.args.t.now))
inside c = rw (objects_length c.args.n (pendings c.args.t.now) (omega (arith, pendings_length c.args.t.now 128 (search rules)))) c.loop-i-test.true

pub bounds-index-object : goal.bounds-index-object
bounds-index-object c = low (goal.at.bounds-index-object c).After-pending_at-object

pub bounds-index-object-in-loop-i : goal.bounds-index-object-in-loop-i
bounds-index-object-in-loop-i c = low (goal.at.bounds-index-object-in-loop-i c).After-pending_at-object

pub loop-i-preserved : goal.loop-i-preserved
loop-i-preserved c =
    let v = c.loop-i in
    let a = c.args in
    let es = pendings a.t.now in
    let os = objects_of a.n es in
    let o = c.pending_at-object.result.object in
    let rows : length es ≡ 128 = pendings_length a.t.now 128 (search rules) in
    let row = get_or v.index o 0 in
    ⊎_elim
    (λ (w : New a.t.now a.n v.index v.fresh v.i).
    let l : o < length v.index = rw w.2.objects_in (low (goal.at.loop-i-preserved c).After-pending_at-object) in
    let s = any_default v.index o 0 128 l in
    by_test (marks row)
    (λ m. inr (omega (arith, and_le_r v.fresh row, ltb-true row 128 m), sym w.1 ∙ again_met 128 marks v.index os v.i (inside (goal.at.loop-i-preserved c).After-pending_at-object) (rw (at (goal.at.loop-i-preserved c).After-pending_at-object, ← s) m)))
    (λ m.
    let g = ltb-false row 128 m in
    inl (
      rw (w.0, row_none v.index es v.i (omega arith) (omega arith) w.2 o (low (goal.at.loop-i-preserved c).After-pending_at-object) g),
      rw (← at (goal.at.loop-i-preserved c).After-pending_at-object) (again_new 128 marks v.index os v.i v.i (lt-ltb v.i 128 (omega arith)) (inside (goal.at.loop-i-preserved c).After-pending_at-object) (rw (at (goal.at.loop-i-preserved c).After-pending_at-object) l) (rw (at (goal.at.loop-i-preserved c).After-pending_at-object, ← s) m)) ∙ w.1,
      index_more v.index es v.i (omega arith) (omega arith) w.2 o (ap (λ e. e.object) (sym c.pending_at-object.ensures)) (low (goal.at.loop-i-preserved c).After-pending_at-object) g,
    )))
    (λ (w : Met a.t.now a.n v.fresh). inr (omega (arith, and_le_l v.fresh row, w.0), w.1))
    v.invariant
