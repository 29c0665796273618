-- From the page's last row to its first, `best` is the page's mark by the copies passed.
use Prim.Native.Nat.{ℕ, ◌-◌}
use mathlib.Core.List.{List}
use mathlib.Core.Path.{◌≡◌, ◌∙◌, ap}
use native.Mathlib.Omega.{arith}
use borrow.Author.Rules.{rules}
use Rattle.tables.specs.Rows.{copy_heads}
use Rattle.tables.proofs.Rows.{copies_length}
use Rattle.tables.proofs.Backward.{Turn}
use Rattle.tables.proofs.Copies.{rows_turn}
use Rattle.tables.proofs.Marks.{mark_from, mark_start, mark_more, mark_trimmed, trimmed_page}
use Rattle.tables.proofs.lookups.mark_of.Goals as goal
use Rattle.tables.proofs.lookups.mark_of.Goals.{In-loop-i}

pub loop-i-init : goal.loop-i-init
loop-i-init c =
    let a = c.args in
    let hs = copy_heads a.t.now in
    let e = c.trimmed_copies-i.ensures.0 in
    let l = copies_length a.t.now 128 (omega arith) in (
      c.trimmed_copies-i.ensures.1,
      mark_trimmed hs a.n a.page e a.n (omega arith) (omega (arith, l)) (λ words. mark_start hs a.n words a.page),
      trimmed_page hs a.n a.page e,
    )

-- a turn's bounds
turn : (c : In-loop-i) → Turn (copy_heads c.args.t.now) c.args.n c.loop-i.i
turn c = rows_turn _ (search rules) (omega arith) (omega arith)

pub loop-i-preserved : goal.loop-i-preserved
loop-i-preserved c =
    let v = c.loop-i in
    let a = c.args in
    let hs = copy_heads a.t.now in
    let r = c.copy_at.ensures in
    let e = c.trimmed_copies-i-in-loop-i.ensures.0 in
    let l = copies_length a.t.now 128 (omega arith) in
    let t = turn (goal.at.loop-i-preserved c).In-loop-i in
    let p = ap (λ x. x.page) r ∙ v.invariant.2 c.loop-i-test.true in
    let m : (words : List ℕ) → c.max-best.result ≡ mark_from hs a.n (v.i - 1) words a.page = λ words. c.max-best.ensures ∙ mark_more t r a.page v.invariant.1 p words in (
      omega (arith, c.trimmed_copies-i-in-loop-i.ensures.1),
      mark_trimmed hs (v.i - 1) a.page e a.n (omega arith) (omega (arith, l)) m,
      trimmed_page hs (v.i - 1) a.page e,
    )
