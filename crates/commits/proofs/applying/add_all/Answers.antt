-- The entries written are those of the store after the commit.
use Rattle.commits.proofs.AllNew.{entered_all}
use Rattle.commits.proofs.applying.add_all.Goals as goal

pub returns-clause-applied : goal.returns-clause-applied
returns-clause-applied c =
    let r = c.requires in
    entered_all c.args.t c.args.objects.now c.args.values.now r.none_pending.0 r.none_pending.1 r.well_formed.0 r.well_formed.2 c.enter.new.pending c.enter.ensures
