-- Each answer hands its tests to the law of its outcome; the end hands on what the judge promised, the writer left and the journal took.
use native.Mathlib.Omega.{arith}
use Prim.Native.Nat.{ℕ}
use mathlib.Core.Path.{◌≡◌, ◌∙◌, sym}
use mathlib.Core.Bool.{false}
use mathlib.Core.List.{List}
use lib.ListN.{take}
use Rattle.model.specs.Damage.{damaged}
use Rattle.model.specs.Changes.{commit, paired}
use Rattle.rules.proofs.Marks.{blank_at}
use Rattle.tables.specs.declared.Store.{Store}
use Rattle.tables.specs.Rows.{pendings}
use Rattle.tables.specs.Lookups.{Indexed}
use Rattle.tables.specs.Contents.{stored}
use Rattle.commits.specs.Promises.{Ready}
use Rattle.commits.proofs.Judged.{accepted_room}
use Rattle.changes.specs.Left.{Formed}
use Rattle.std.proofs.lemmas.Result.{err_from_is_err_and}
use Rattle.changes.proofs.Undamaged.{sound}
use Rattle.changes.proofs.Outcomes.{left_damaged, made_refused, made_done}
use Rattle.changes.proofs.Lists.{formed_listed, formed_length, formed_passed}
use Rattle.changes.proofs.committing.rewrite.Goals as goal

-- an undamaged store is ready for a commit in shape
ready : {s : Store} {os vs j index : List ℕ} {used : ℕ} → damaged (stored s) ≡ false → Formed os vs j used → Indexed index (take s.heads.pending (pendings s.written.pending))
    → Ready s os index
ready {s} w f x =
    let u = sound s w in
    let l = formed_listed f in
    record { counted = u.counted; rising = u.rising; short = l.short; once = f.once; in_range = l.in_range; indexed = x }

pub damaged_or_indexed-requires : goal.damaged_or_indexed-requires
damaged_or_indexed-requires c = blank_at 128 512

pub returns-then-damaged_or_indexed-clause-made : goal.returns-then-damaged_or_indexed-clause-made
returns-then-damaged_or_indexed-clause-made c =
    left_damaged _ _ _ _ _ (sym c.damaged_or_indexed.ensures.0 ∙ c.if-damaged_or_indexed.true)

pub judge-verdict-requires : goal.judge-verdict-requires
judge-verdict-requires c =
    let d = c.damaged_or_indexed.ensures in
    ready (sym d.0 ∙ c.if-damaged_or_indexed.false) c.in_ok-formed.ensures (d.1 c.if-damaged_or_indexed.false)

pub settled-requires : goal.settled-requires
settled-requires c = let l = formed_listed c.in_ok-formed.ensures in
    (omega (arith, l.short), l.placed)

pub returns-in_err-settled-clause-made : goal.returns-in_err-settled-clause-made
returns-in_err-settled-clause-made c =
    let a = c.args in
    let f = c.in_ok-formed.ensures in
    let r = err_from_is_err_and c.from_residual-in_err-settled.result c.from_residual-in_err-settled.ensures.1 in
    rw (r.1, r.2)
    (made_refused (formed_passed f a.t (sym c.damaged_or_indexed.ensures.0 ∙ c.if-damaged_or_indexed.false))
    (c.judge-verdict.ensures a.values.now (sym (formed_listed f).even))
    (c.in_err-settled.ensures (commit a.t (paired a.objects.now a.values.now)) (formed_length f a.t)))

pub apply_commit-requires-clause-ready : goal.apply_commit-requires-clause-ready
apply_commit-requires-clause-ready c =
    let d = c.damaged_or_indexed.ensures in
    ready (sym d.0 ∙ c.if-damaged_or_indexed.false) c.in_ok-formed.ensures (d.1 c.if-damaged_or_indexed.false)

pub apply_commit-requires-clause-room : goal.apply_commit-requires-clause-room
apply_commit-requires-clause-room c =
    let a = c.args in
    let f = c.in_ok-formed.ensures in
    let even = sym (formed_listed f).even in
    let e = c.in_ok-settled.ensures (commit a.t (paired a.objects.now a.values.now)) (formed_length f a.t) in
    (even, accepted_room (stored a.store.now) a.t (paired a.objects.now a.values.now) (sym (c.judge-verdict.ensures a.values.now even) ∙ e.0))

pub append_commit-requires : goal.append_commit-requires
append_commit-requires c =
    let a = c.args in
    let f = c.in_ok-formed.ensures in
    let l = formed_listed f in
    (l.even, l.short, (c.in_ok-settled.ensures (commit a.t (paired a.objects.now a.values.now)) (formed_length f a.t)).1)

pub returns-clause-made : goal.returns-clause-made
returns-clause-made c =
    let a = c.args in
    let f = c.in_ok-formed.ensures in
    made_done (formed_passed f a.t (sym c.damaged_or_indexed.ensures.0 ∙ c.if-damaged_or_indexed.false))
    (c.judge-verdict.ensures a.values.now (sym (formed_listed f).even))
    (c.in_ok-settled.ensures (commit a.t (paired a.objects.now a.values.now)) (formed_length f a.t))
    c.apply_commit.ensures.applied.contains
    c.append_commit.ensures
