-- As where some entry is pending; the tests of the ranges are all of damage, and every write is a new entry.
use native.Mathlib.Omega.{arith}
use Prim.Native.Nat.{ℕ}
use mathlib.Core.Path.{◌≡◌, ◌∙◌, sym}
use mathlib.Core.List.{List}
use Rattle.model.specs.declared.Verdict.{Verdict}
use Rattle.model.specs.Changes.{Write, commit, commit_store, paired}
use Rattle.model.specs.Judgement.{judge_commit}
use Rattle.tables.specs.declared.Store.{Store}
use Rattle.tables.specs.Contents.{stored, Counted}
use Rattle.commits.specs.Promises.{Room}
use Rattle.commits.proofs.AllNew.{new_room}
use Rattle.changes.specs.Left.{Formed}
use Rattle.std.proofs.lemmas.Result.{err_from_is_err_and}
use Rattle.changes.proofs.Undamaged.{none_damaged}
use Rattle.changes.proofs.Outcomes.{left_damaged, made_refused, made_done}
use Rattle.changes.proofs.Lists.{formed_listed, formed_length, formed_passed}
use Rattle.changes.proofs.adding.add.Goals as goal

-- the verdict on a commit with room is the model's, and there is room for new entries alone
judged : (s : Store) {os vs j : List ℕ} {used : ℕ} (t : ℕ) → s.heads.pending ≡ 0 → Counted s.heads → Formed os vs j used → {v : Verdict}
    → ((ws : List Write) → Room (commit_store (stored s) t ws) → v ≡ judge_commit (stored s) t ws) → v ≡ judge_commit (stored s) t (paired os vs)
judged s {os} {vs} t z n f e =
    let w = s.written in
    e (paired os vs) (new_room s.heads t os vs z n (formed_listed f).short f.once w.disk w.dated w.pending w.past s.snapshots s.copies s.copied)

pub returns-then-out_of_range-clause-made : goal.returns-then-out_of_range-clause-made
returns-then-out_of_range-clause-made c =
    left_damaged _ _ _ _ _ (none_damaged c.args.store.now c.out_of_range.ensures c.requires ∙ c.if-out_of_range.true)

pub settled-requires : goal.settled-requires
settled-requires c = let l = formed_listed c.in_ok-formed.ensures in
    (omega (arith, l.short), l.placed)

pub returns-in_err-settled-clause-made : goal.returns-in_err-settled-clause-made
returns-in_err-settled-clause-made c =
    let a = c.args in
    let f = c.in_ok-formed.ensures in
    let o = c.out_of_range.ensures in
    let r = err_from_is_err_and c.from_residual-in_err-settled.result c.from_residual-in_err-settled.ensures.1 in
    rw (r.1, r.2)
    (made_refused (formed_passed f a.t (none_damaged a.store.now o c.requires ∙ c.if-out_of_range.false))
    (judged a.store.now a.t c.requires (o.counted c.if-out_of_range.false) f c.judge_with_room-verdict.ensures)
    (c.in_err-settled.ensures (commit a.t (paired a.objects.now a.values.now)) (formed_length f a.t)))

pub add_all-requires-clause-well_formed : goal.add_all-requires-clause-well_formed
add_all-requires-clause-well_formed c =
    let f = c.in_ok-formed.ensures in
    let l = formed_listed f in
    (l.short, sym l.even, f.once)

pub append_commit-requires : goal.append_commit-requires
append_commit-requires c =
    let a = c.args in
    let f = c.in_ok-formed.ensures in
    let l = formed_listed f in
    (l.even, l.short, (c.in_ok-settled.ensures (commit a.t (paired a.objects.now a.values.now)) (formed_length f a.t)).1)

pub returns-clause-made : goal.returns-clause-made
returns-clause-made c =
    let a = c.args in
    let f = c.in_ok-formed.ensures in
    let o = c.out_of_range.ensures in
    made_done (formed_passed f a.t (none_damaged a.store.now o c.requires ∙ c.if-out_of_range.false))
    (judged a.store.now a.t c.requires (o.counted c.if-out_of_range.false) f c.judge_with_room-verdict.ensures)
    (c.in_ok-settled.ensures (commit a.t (paired a.objects.now a.values.now)) (formed_length f a.t))
    c.add_all.ensures.applied.contains
    c.append_commit.ensures
