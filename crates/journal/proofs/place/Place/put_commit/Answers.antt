-- `Place::put_commit` meets its contract: its fields one behind another are the commit's record.
use Rattle.journal.proofs.Places.{left_next, left_last, commit_all}
use Rattle.journal.proofs.place.Place.put_commit.Goals as goal

pub returns : goal.returns
returns c =
    let l = commit_all c.args.t c.args.objects.now c.args.values.now c.requires.0 c.requires.2 in
    left_last c.put_writes.ensures (left_next c.put-4.ensures (left_next c.put-3.ensures (left_next c.put-2.ensures (left_next c.put.ensures l))))
