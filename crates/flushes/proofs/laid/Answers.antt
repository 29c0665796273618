-- A lent array has the length of its type, so every table has its rows.
use Rattle.std.proofs.Common.{rules}
use Rattle.tables.proofs.Rows.{pendings_length, pasts_length, copies_length}
use Rattle.flushes.proofs.laid.Goals as goal

pub returns : goal.returns
returns c = record {
  value_words = search rules;
  stamp_words = search rules;
  pending_rows = pendings_length _ _ (search rules);
  past_rows = pasts_length _ _ (search rules);
  snapshot_words = search rules;
  copy_rows = copies_length _ _ (search rules);
  copied_words = search rules;
}
