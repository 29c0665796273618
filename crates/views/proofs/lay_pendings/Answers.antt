-- From the first slot on, the words passed are those of the entries laid over what `out` was, and the others are as they were.
use Prim.Native.Nat.{ℕ, ◌≤◌, ◌<◌}
use mathlib.Core.Path.{◌≡◌, ap, ◌∙◌}
use mathlib.Core.Bool.{false}
use mathlib.Core.List.{List}
use native.Mathlib.Omega.{arith}
use borrow.Author.Rules.{rules}
use lib.ListN.{length, take}
use Rattle.model.specs.Store.{slot_of, pending_seen}
use Rattle.tables.specs.Rows.{pendings}
use Rattle.tables.proofs.Rows.{pendings_length}
use Rattle.views.specs.Rows.{shows_by}
use Rattle.views.specs.Views.{part_of, shows_b}
use Rattle.views.proofs.Pages.{replace_more, replace_end}
use Rattle.views.proofs.Laying.{put_length, lay_length}
use Rattle.views.proofs.Showing.{pendings_over, slot_shown, slot_bare}
use Rattle.views.proofs.lay_pendings.Goals as goal
use Rattle.views.proofs.lay_pendings.Goals.{Start, else-row-n, then-row-n}

-- the entries laid over what `out` was
abbrev laid : Start → List ℕ
laid c = let a = c.args in pendings_over a.v (take a.n (pendings a.t.now)) a.out.now

same : (c : Start) → length (laid c) ≡ length c.args.out.now
same c =
    let a = c.args in
    lay_length (shows_b a.v) (λ e. slot_of e.object) (λ e. part_of a.v.word (pending_seen e)) (take a.n (pendings a.t.now)) a.out.now

pub loop-k-preserved : goal.loop-k-preserved
loop-k-preserved c =
    let a = c.args in
    let p = c.requires in
    let v = c.loop-k in
    let ps = pendings a.t.now in
    let r : length ps ≡ 128 = pendings_length a.t.now 128 (search rules) in
    let n : a.n ≤ length ps = omega arith in
    let b : v.k < 16 = omega arith in
    let o : v.k < length a.out.now = omega arith in
    let s = (goal.at.loop-k-preserved c).Start in
    (elim c.if-row-n.branch [
      | then-row-n w ↦ let e = w.pending_at.result in
          let q = w.out-is ∙ w.lay_row.ensures in (
            put_length (shows_by a.v.as_of e) v.out v.k (part_of a.v.word (pending_seen e)) q v.invariant.0,
            replace_more (laid s) a.out.now v.k v.invariant.1 (same s) o (shows_by a.v.as_of e) (part_of a.v.word (pending_seen e))
                (slot_shown a.v v.k b p.bounds.1 ps a.n p.indexed.0 p.indexed.1 p.bounds.0 n a.out.now p.bounds.2 (rw c.from-row.ensures at w.if-row-n.true) (rw c.from-row.ensures at w.pending_at.ensures)) q,
          )
      | else-row-n w ↦ (
        ap length w.out-is ∙ v.invariant.0,
        replace_more (laid s) a.out.now v.k v.invariant.1 (same s) o false 0
            (slot_bare a.v v.k b p.bounds.1 ps a.n p.indexed.0 p.indexed.1 p.bounds.0 n a.out.now p.bounds.2 (rw c.from-row.ensures at w.if-row-n.false)) w.out-is,
      )
    ])

pub returns : goal.returns
returns c =
    let v = c.loop-k in
    let s = (goal.at.returns c).Start in
    replace_end (laid s) c.args.out.now v.k v.invariant.1 (omega (arith, same s)) (omega arith)
