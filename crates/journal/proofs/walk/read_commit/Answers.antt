-- Each test of the code settles an answer for a commit's body; what passes them all is sound.
use mathlib.Core.Path.{sym, ◌∙◌}
use Rattle.journal.proofs.Walks.{commit_uncounted, commit_misshapen, commit_sound}
use Rattle.journal.proofs.walk.read_commit.Goals as goal

pub returns-in_err-count : goal.returns-in_err-count
returns-in_err-count c = let u = commit_uncounted c.args.body.now c.in_err-count.ensures in cc

pub returns-then-not-objects_good : goal.returns-then-not-objects_good
returns-then-not-objects_good c =
    commit_misshapen c.args.body.now c.in_ok-count.ensures (sym c.objects_good.ensures ∙ c.if-not-objects_good.true)

pub returns : goal.returns
returns c =
    commit_sound c.args.body.now c.in_ok-count.ensures c.get_be-stamp.ensures (sym c.objects_good.ensures ∙ c.if-not-objects_good.false)
