-- Each test of the journal refuses it or passes it on, as the model does, and the rest is the walk.
use mathlib.Core.Path.{refl, sym, ◌∙◌, subst}
use native.Mathlib.Omega.{arith}
use Rattle.model.specs.Restart.{Restarted}
use Rattle.tables.specs.Contents.{stored}
use Rattle.restart.specs.Promises.{Resumes}
use Rattle.restart.proofs.Walking.{rebuilt_as, restart_shape, restart_empty, restart_version_of, restart_walk, first_there, none_there}
use Rattle.restart.proofs.resumed.Goals as goal

pub returns-then-journal-gt65535 : goal.returns-then-journal-gt65535
returns-then-journal-gt65535 c = restart_shape c.args.journal.now (omega arith)

pub returns-in_default : goal.returns-in_default
returns-in_default c =
    rebuilt_as (restart_empty c.args.journal.now (none_there c.args.journal.now c.in_default.ensures.value)) (record { answered = refl; contains = c.wipe.ensures.holds; place_is = refl })

pub returns-then-version-ne1 : goal.returns-then-version-ne1
returns-then-version-ne1 c =
    let j = c.args.journal.now in
    let f = first_there j c.in-Some.ensures.value in
    restart_version_of j (omega arith) f.0 f.1 c.if-version-ne1.true

pub returns : goal.returns
returns c =
    let j = c.args.journal.now in
    let f = first_there j c.in-Some.ensures.value in
    let e = restart_walk j (omega arith) f.0 (f.1 ∙ c.if-version-ne1.false) in
    subst (λ (x : Restarted). Resumes x c.walk.result (stored c.walk.new.store)) (sym e) c.walk.ensures
