-- The objects and the values are read into the fronts of two lists, and are the columns of the commit that stands there.
use Prim.Native.Nat.{◌+◌}
use mathlib.Core.Path.{◌≡◌, ap, sym, ◌∙◌}
use native.Mathlib.Omega.{arith}
use lib.ListN.{length, drop}
use lib.Seq.{length-take-le}
use lib.Dec.{ltb}
use Rattle.model.specs.Lists.{all_b, twice_b}
use Rattle.model.specs.Changes.{commit, paired}
use Rattle.restart.proofs.Fronts.{filled}
use Rattle.restart.proofs.Standing.{commit_stands}
use Rattle.restart.proofs.Turning.{carried_as}
use Rattle.restart.proofs.commit.replay.Goals as goal

pub overflow_add-at : goal.overflow_add-at
overflow_add-at c = omega (arith, (commit_stands c.args.journal.now c.args.at c.requires.stands).inside)

pub slice_bounds-get_column-end : goal.slice_bounds-get_column-end
slice_bounds-get_column-end c = omega (arith, (commit_stands c.args.journal.now c.args.at c.requires.stands).short)

-- the front of a list is as long as the commit
pub get_column-requires : goal.get_column-requires
get_column-requires c =
    let k = commit_stands c.args.journal.now c.args.at c.requires.stands in
    let n : length c.args.room.now.objects ≡ 16 = omega arith in
    omega (arith, k.inside, length-take-le c.args.head.count c.args.room.now.objects (omega (arith, k.short)))

pub overflow_add-at-2 : goal.overflow_add-at-2
overflow_add-at-2 c = omega (arith, (commit_stands c.args.journal.now c.args.at c.requires.stands).inside)

pub get_column-requires-2 : goal.get_column-requires-2
get_column-requires-2 c =
    let k = commit_stands c.args.journal.now c.args.at c.requires.stands in
    let n : length c.args.room.now.values ≡ 16 = omega arith in
    omega (arith, k.inside, length-take-le c.args.head.count c.args.room.now.values (omega (arith, k.short)))

-- what a list holds once it is filled
pub carry-requires-clause-objects_len_bound : goal.carry-requires-clause-objects_len_bound
carry-requires-clause-objects_len_bound c =
    let a = c.args in
    let k = commit_stands a.journal.now a.at c.requires.stands in
    let m : length a.room.now.objects ≡ 16 = omega arith in
    let n : length a.room.now.values ≡ 16 = omega arith in
    let o = filled 2 10 a.head.count (drop (a.at + 12) a.journal.now) a.room.now.objects m k.short c.get_column.ensures in
    let v = filled 8 10 a.head.count (drop (a.at + 14) a.journal.now) a.room.now.values n k.short c.get_column-2.ensures in
    (omega (arith, o.long, k.short), sym v.long ∙ o.long, ap twice_b o.holds ∙ k.once, ap (all_b (λ o. ltb o 512)) o.holds ∙ k.in_range)

pub returns-clause-carried : goal.returns-clause-carried
returns-clause-carried c =
    let a = c.args in
    let k = commit_stands a.journal.now a.at c.requires.stands in
    let m : length a.room.now.objects ≡ 16 = omega arith in
    let n : length a.room.now.values ≡ 16 = omega arith in
    let o = filled 2 10 a.head.count (drop (a.at + 12) a.journal.now) a.room.now.objects m k.short c.get_column.ensures in
    let v = filled 8 10 a.head.count (drop (a.at + 14) a.journal.now) a.room.now.values n k.short c.get_column-2.ensures in
    carried_as c.carry.ensures.carried ((λ i. commit a.head.stamp (paired (o.holds i) (v.holds i))) ∙ sym k.is)
