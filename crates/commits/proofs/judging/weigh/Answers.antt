-- `weigh` counts the objects that have no entry, and those whose write displaces a live value.
use mathlib.Core.Path.{◌≡◌, sym, ◌∙◌}
use native.Mathlib.Omega.{arith}
use lib.ListN.{get_or}
use Rattle.tables.specs.Contents.{stored}
use Rattle.commits.specs.Rows.{live_in}
use Rattle.commits.specs.Promises.{entries, value_at}
use Rattle.commits.proofs.Counting.{counts_by}
use Rattle.commits.proofs.Distinct.{low}
use Rattle.commits.proofs.Displacing.{few, row_low, old_at, new_none, displaces_at, displaces_none, displaced_is}
use Rattle.commits.proofs.judging.weigh.Goals as goal
use Rattle.commits.proofs.judging.weigh.Goals.{In-loop-object, in-Some+then-is_some, in-Some+else-is_some, in-None}

pub row_of-requires : goal.row_of-requires
row_of-requires c = low c.args.objects.now c.requires.in_range c.loop-object.object-index c.loop-object-test.true

pub displaced-requires : goal.displaced-requires
displaced-requires c =
    let s = c.args.store.now in
    let r = c.requires in
    let f = sym (c.in-Some.ensures (entries s) (few s r.counted) r.indexed) in
    (record { counted = r.counted; rising = r.rising }, row_low s c.rows.ensures.0 r.counted (get_or c.args.objects.now c.loop-object.object-index 0) c.in-Some.row f)

pub loop-object-preserved : goal.loop-object-preserved
loop-object-preserved c =
    let s = c.args.store.now in
    let r = c.requires in
    let p = c.rows.ensures.0 in
    let os = c.args.objects.now in
    let v = c.loop-object in
    let k = v.object-index in
    let o = get_or os k 0 in
    let i = v.invariant in
    let l = c.loop-object-test.true in
    elim c.match-row_of.branch [
      | in-Some+then-is_some w ↦
          let f = sym (w.in-Some.ensures (entries s) (few s r.counted) r.indexed) in
          let b : w.is_some.result ≡ live_in (stored s) (value_at s w.in-Some.row o c.args.t) = w.is_some.ensures ∙ displaced_is (live_in (stored s)) (value_at s w.in-Some.row o c.args.t) w.displaced.result w.displaced.ensures in
          record {
            few_entries = omega arith;
            few_rows = omega arith;
            new = counts_by _ os k v.entries i.new 0 l (old_at s p r.counted o w.in-Some.row f) (omega arith);
            old = counts_by _ os k v.rows i.old 0 l (displaces_at s p r.counted o w.in-Some.row f c.args.t b) (rw w.if-is_some.true w.rows-is);
          }
      | in-Some+else-is_some w ↦
          let f = sym (w.in-Some.ensures (entries s) (few s r.counted) r.indexed) in
          let b : w.is_some.result ≡ live_in (stored s) (value_at s w.in-Some.row o c.args.t) = w.is_some.ensures ∙ displaced_is (live_in (stored s)) (value_at s w.in-Some.row o c.args.t) w.displaced.result w.displaced.ensures in
          record {
            few_entries = omega arith;
            few_rows = omega arith;
            new = counts_by _ os k v.entries i.new 0 l (old_at s p r.counted o w.in-Some.row f) (omega arith);
            old = counts_by _ os k v.rows i.old 0 l (displaces_at s p r.counted o w.in-Some.row f c.args.t b) (rw w.if-is_some.false (omega arith));
          }
      | in-None w ↦
          let f = sym (w.in-None.ensures (entries s) (few s r.counted) r.indexed) in
          record {
            few_entries = omega arith;
            few_rows = omega arith;
            new = counts_by _ os k v.entries i.new 0 l (new_none s p r.counted o f) w.entries-is;
            old = counts_by _ os k v.rows i.old 0 l (displaces_none s p r.counted o f c.args.t) (omega arith);
          }
    ]
