-- Where the rows that stay leave room for one of each entry, there is room for those that the entries leave.
use Prim.Native.Nat.{◌+◌}
use mathlib.Core.Path.{◌≡◌, sym, ◌∙◌}
use native.Mathlib.Omega.{arith}
use borrow.Author.Tests.{eqb-false}
use lib.ListN.{length, take}
use Rattle.model.specs.Changes.{of_page}
use Rattle.model.specs.Lists.{kept}
use Rattle.tables.specs.Rows.{pendings}
use Rattle.flushes.specs.Parts.{leaves_under}
use Rattle.shares.proofs.Numbers.{numbered_count}
use Rattle.flushes.proofs.Sharing.{leaving_few}
use Rattle.flushes.proofs.Verdicts.{say_accepted}
use Rattle.flushes.proofs.judge.verdict.Goals as goal
use Rattle.flushes.proofs.judge.verdict.Goals.{else-is_empty-via-then-is_empty+else-is_empty-2, else-is_empty-via-else-is_empty}

pub returns-then-staying-entries-le256 : goal.returns-then-staying-entries-le256
returns-then-staying-entries-le256 c =
    let a = c.args in
    let s = a.store.now in
    let w = s.written in
    let es = take s.heads.pending (pendings w.pending) in
    let own = length (kept (of_page a.rule.page) es) in
    let e = numbered_count c.requires.numbered in
    let some : own + length a.due.now ≡ 0 → ⊥ = λ z.
    elim c.else-is_empty.branch [
      | else-is_empty-via-then-is_empty+else-is_empty-2 w ↦ eqb-false (length a.due.now) 0 (sym w.is_empty-then-is_empty.ensures ∙ w.if-is_empty-2.false) (omega arith)
      | else-is_empty-via-else-is_empty w ↦ eqb-false (length a.entries.now) 0 (sym c.is_empty.ensures ∙ w.if-is_empty.false) (omega arith)
    ] in
    say_accepted own (length a.due.now) s.heads.copies (a.staying + length (kept (leaves_under w.disk w.dated s.snapshots a.rule) es)) some c.requires.counted.0.copy_count c.if-store-due.false
    (omega (arith, c.if-staying-entries-le256.true, leaving_few w.disk w.dated s.snapshots a.rule c.requires.numbered))
