-- `weigh` counts the objects that have no entry, and those whose write displaces a live value.
use Prim.Native.Nat.{◌≤◌}
use Rattle.tables.specs.Contents.{stored}
use Rattle.commits.specs.Rows.{new_in, live_in, displaces_in}
use Rattle.commits.proofs.Counting.{Counts}
use Rattle.commits.proofs.judging.weigh.Given as goal

abbrev pub invariant-loop-object : goal.invariant-loop-object
invariant-loop-object l = record {
  few_entries : l.entries ≤ l.object-index;
  few_rows : l.rows ≤ l.object-index;
  new : Counts (new_in (stored l.store).pending) l.objects l.object-index l.entries;
  old : Counts (displaces_in (live_in (stored l.store)) l.t (stored l.store).pending) l.objects l.object-index l.rows;
}
