-- The entries kept so far, with the others ahead, are the others; the disk, with the page's entries ahead, is the disk after.
use mathlib.Core.Bool.{not}
use mathlib.Core.Path.{refl, ap, sym, ◌∙◌}
use native.Mathlib.Omega.{arith}
use lib.ListN.{length, length-set}
use lib.Seq.{length-take-le}
use Rattle.std.proofs.Common.{rules}
use Rattle.model.specs.Changes.{of_page}
use Rattle.tables.proofs.Keeping.{keep_yes}
use Rattle.tables.proofs.Rows.{pendings_length}
use Rattle.tables.specs.Rows.{pendings}
use Rattle.flushes.proofs.Settling.{store_yes, store_no, store_end, pass_by, kept_end}
use Rattle.flushes.proofs.settle.settle.Invariants.{off}
use Rattle.flushes.proofs.settle.settle.Goals as goal
use Rattle.flushes.proofs.settle.settle.Goals.{then-of_page, else-of_page}

pub loop-i-init : goal.loop-i-init
loop-i-init c = (omega arith, pendings_length _ _ (search rules), refl, refl, refl, refl)

pub loop-i-preserved : goal.loop-i-preserved
loop-i-preserved c =
    let a = c.args in
    let v = c.loop-i in
    let P = pendings v.w.pending in
    let h = c.loop-i-test.true in
    let p = c.pending_at-e.ensures in
    elim c.if-of_page.branch [
      | then-of_page b ↦
          let e = sym c.of_page.ensures ∙ b.if-of_page.true in
          rw (b.w-is, b.k-is) (
            omega arith,
            v.invariant.1,
            v.invariant.2,
            pass_by (off a.page) P a.n v.i v.k v.invariant.3 _ h (omega arith) (ap not (ap (of_page a.page) (sym p) ∙ e)),
            store_yes a.page (λ e. e.value) P a.n v.i v.w.disk v.invariant.4 _ h (omega arith) p e,
            store_yes a.page (λ e. e.latest) P a.n v.i v.w.dated v.invariant.5 _ h (omega arith) p e,
          )
      | else-of_page b ↦
          let e = sym c.of_page.ensures ∙ b.if-of_page.false in
          let q = b.move_pending.ensures in
          rw (b.w-is, b.k-is) (
            omega arith,
            ap length q ∙ simp length-set v.invariant.1,
            v.invariant.2,
            rw q (keep_yes (off a.page) P v.k v.i a.n _ v.invariant.0 h (omega arith) (ap not (ap (of_page a.page) (sym p) ∙ e)) ∙ v.invariant.3),
            store_no a.page (λ e. e.value) P a.n v.i v.w.disk v.invariant.4 _ h (omega arith) p e v.k _ v.invariant.0 q,
            store_no a.page (λ e. e.latest) P a.n v.i v.w.dated v.invariant.5 _ h (omega arith) p e v.k _ v.invariant.0 q,
          )
    ]

pub returns : goal.returns
returns c =
    let a = c.args in
    let v = c.loop-i in
    let P = pendings v.w.pending in
    let h = c.loop-i-test.false in
    let whole = pendings_length a.w.now.pending 128 (search rules) in
    record {
      values = store_end a.page (λ e. e.value) P a.n v.i v.w.disk v.invariant.4 h;
      stamps = store_end a.page (λ e. e.latest) P a.n v.i v.w.dated v.invariant.5 h;
      left = kept_end (off a.page) P a.n v.i v.k v.invariant.3 h (omega arith);
      fewer = omega (arith, length-take-le a.n (pendings a.w.now.pending));
      past = v.invariant.2;
    }
