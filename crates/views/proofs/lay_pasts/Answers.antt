-- From the page's last row to its first, `out` is the past rows passed laid over what it was, and the next row is of the page.
use Prim.Native.Nat.{◌-◌}
use mathlib.Core.Path.{◌≡◌, ◌∙◌}
use mathlib.Core.Bool.{true}
use mathlib.Core.List.{[]}
use native.Mathlib.Omega.{arith}
use lib.ListN.{length, take, drop, set}
use lib.Dec.{eqb}
use borrow.Author.Rules.{rules}
use Rattle.model.specs.Lists.{pick}
use Rattle.model.specs.Store.{page_of, slot_of, past_seen}
use Rattle.tables.specs.Rows.{past_of, pasts}
use Rattle.tables.proofs.Rows.{pasts_length}
use Rattle.tables.proofs.Backward.{Turn, back_start}
use Rattle.tables.proofs.Trims.{trim_passes}
use Rattle.views.specs.Views.{part_of, covers_b}
use Rattle.views.proofs.Laying.{put_length, lay_more, lay_trimmed}
use Rattle.views.proofs.Showing.{pasts_over}
use Rattle.views.proofs.lay_pasts.Goals as goal

pub loop-i-init : goal.loop-i-init
loop-i-init c =
    let a = c.args in
    let ps = pasts a.t.now in
    let r : length ps ≡ 256 = pasts_length a.t.now 256 (search rules) in
    let s : a.out.now ≡ pasts_over a.v (drop a.n (take a.n ps)) a.out.now = rw (back_start a.n ps) in (
      omega arith,
      omega arith,
      lay_trimmed (covers_b a.v) (λ q. slot_of q.object) (λ q. part_of a.v.word (past_seen q))
          (λ q. eqb (page_of q.object) a.v.page) (λ q z. rw z) (past_of []) ps a.n a.n a.out.now (omega arith) (omega arith) c.trimmed_past-i.ensures.0 s,
      trim_passes (λ q. eqb (page_of q.object) a.v.page) (past_of []) ps a.n c.trimmed_past-i.ensures.0,
    )

pub loop-i-preserved : goal.loop-i-preserved
loop-i-preserved c =
    let a = c.args in
    let v = c.loop-i in
    let ps = pasts a.t.now in
    let r : length ps ≡ 256 = pasts_length a.t.now 256 (search rules) in
    let h = c.loop-i-test.true in
    let t : Turn ps a.n v.i = record { left = omega arith; inside = omega arith; rows = omega arith } in
    let q = c.past_at-q.result in
    let p : eqb (page_of q.object) a.v.page ≡ true = rw c.past_at-q.ensures (v.invariant.3 h) in
    let l : c.lay_row.new.out ≡ pick (covers_b a.v q) (set v.out (slot_of q.object) (part_of a.v.word (past_seen q))) v.out = c.lay_row.ensures ∙ rw p in
    let s = lay_more (covers_b a.v) (λ q. slot_of q.object) (λ q. part_of a.v.word (past_seen q)) t (past_of []) a.out.now v.invariant.2 c.past_at-q.ensures l in (
      omega (arith, c.trimmed_past-i-in-loop-i.ensures.1),
      put_length (covers_b a.v q) v.out (slot_of q.object) (part_of a.v.word (past_seen q)) l v.invariant.1,
      lay_trimmed (covers_b a.v) (λ q. slot_of q.object) (λ q. part_of a.v.word (past_seen q))
          (λ q. eqb (page_of q.object) a.v.page) (λ q z. rw z) (past_of []) ps a.n (v.i - 1) a.out.now (omega arith) (omega arith) c.trimmed_past-i-in-loop-i.ensures.0 s,
      trim_passes (λ q. eqb (page_of q.object) a.v.page) (past_of []) ps (v.i - 1) c.trimmed_past-i-in-loop-i.ensures.0,
    )
