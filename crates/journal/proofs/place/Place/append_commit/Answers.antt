-- `Place::append_commit` meets its contract: the commit's record stands behind what `begun` wrote, and there is room for both.
use Rattle.journal.proofs.Places.{reached_is, begun_fits, begun_then, paired_length}
use Rattle.model.specs.Changes.{Change, commit, paired}
use native.Mathlib.Omega.{arith}
use Rattle.journal.proofs.place.Place.append_commit.Goals as goal
use Rattle.journal.proofs.place.Place.append_commit.Goals.{Start}

abbrev told : Start → Change
told c = commit c.args.t (paired c.args.objects.now c.args.values.now)

pub begun-requires : goal.begun-requires
begun-requires c = omega (arith, reached_is c.args.self.at (told (goal.at.begun-requires c).Start))

pub put_commit-requires : goal.put_commit-requires
put_commit-requires c =
    let n = paired_length c.args.objects.now c.args.values.now c.requires.0 in
    (c.requires.0, c.requires.1, omega (arith, begun_fits (told (goal.at.put_commit-requires c).Start) c.begun.ensures c.requires.2))

pub returns : goal.returns
returns c =
    begun_then (told (goal.at.returns c).Start) c.begun.ensures c.requires.2 c.put_commit.ensures
