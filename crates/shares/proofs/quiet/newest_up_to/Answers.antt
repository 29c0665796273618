-- The newest on disk is under the newest of the rows, and this one under the newest of the entries.
use Prim.Native.Nat.{◌≤◌}
use mathlib.Core.Path.{◌≡◌, ap, ◌∙◌}
use native.Mathlib.Omega.{arith}
use mathlib.Core.List.{[]}
use lib.ListN.{take}
use Rattle.model.specs.Changes.{of_page}
use Rattle.model.specs.Lists.{kept}
use Rattle.tables.specs.Rows.{past_of, pending_of, pendings, pasts}
use Rattle.shares.specs.Shares.{row_of_page, rows_at}
use Rattle.shares.specs.Lulls.{newest_of}
use Rattle.shares.proofs.Lulls.{newest_least, newest_outside}
use Rattle.shares.proofs.quiet.newest_up_to.Goals as goal

pub returns : goal.returns
returns c =
    let a = c.args in
    let w = a.w.now in
    let s = c.requires.shared in
    let es = kept (of_page a.page) (take a.h.pending (pendings w.pending)) in
    let qs = kept (row_of_page a.page) (take a.h.past (pasts w.past)) in
    let d = c.newest_on_disk-a.result in
    let b = c.newest-b.result in
    let r = c.newest.result in
    let f : b ≡ newest_of (λ q. q.from) a.bound d qs = c.newest-b.ensures
    ∙ ap (λ ns. newest_of (λ q. q.from) a.bound d (rows_at (past_of []) (pasts w.past) ns)) c.listed.ensures ∙ ap (newest_of (λ q. q.from) a.bound d) s.past_rows.rows in
    let e : r ≡ newest_of (λ e. e.latest) a.bound b es = c.newest.ensures
    ∙ ap (λ ns. newest_of (λ e. e.latest) a.bound b (rows_at (pending_of []) (pendings w.pending) ns)) c.listed-2.ensures ∙ ap (newest_of (λ e. e.latest) a.bound b) s.entries.rows in
    let m : b ≤ r = omega (arith, newest_least (λ e. e.latest) a.bound b es) in record {
      still = record {
        entries = newest_outside (λ e. e.latest) a.bound r b es (omega arith);
        past_rows = newest_outside (λ q. q.from) a.bound r d qs (omega arith);
      };
      by_index = λ k h. omega (arith, c.newest_on_disk-a.ensures k h, newest_least (λ q. q.from) a.bound d qs);
    }
