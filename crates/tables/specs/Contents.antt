-- What the lent tables and the heads hold, as a store of the model. Every promise of a call speaks of it, and of nothing below it.
use Rattle.std.specs.Prelude.{ℕ, ◌≤◌, ◌≡◌, List, [], length}
use Rattle.model.specs.Store as model
use Rattle.tables.specs.declared.Heads.{Heads}
use Rattle.tables.specs.declared.Store.{Store}
use Rattle.tables.specs.Rows.{pending_of, past_of, pendings, pasts, copy_heads, copies_of, up_to}

abbrev pub contents : List ℕ → List ℕ → List (List ℕ) → List (List ℕ) → List ℕ → List (List ℕ) → List ℕ → Heads → model.Store
contents values stamps pending past snapshots copies copied h = record {
  values = values;
  stamps = stamps;
  pending = up_to (pending_of []) h.pending (pendings pending);
  past = up_to (past_of []) h.past (pasts past);
  snapshots = up_to 0 h.snapshots snapshots;
  horizon = h.horizon;
  last = h.last;
  copies = up_to (record { page = 0; stamp = 0; values = [] }) h.copies (copies_of (copy_heads copies) copied);
}

-- the store that the struct holds
abbrev pub stored : Store → model.Store
stored s = contents s.written.disk s.written.dated s.written.pending s.written.past s.snapshots s.copies s.copied s.heads

-- every table has the rows that its type says
pub record Laid (values stamps : List ℕ) (pending past : List (List ℕ)) (snapshots : List ℕ) (copies : List (List ℕ)) (copied : List ℕ) : Type 0 where
  pub value_words : length values ≡ 512
  pub stamp_words : length stamps ≡ 512
  pub pending_rows : length (pendings pending) ≡ 128
  pub past_rows : length (pasts past) ≡ 256
  pub snapshot_words : length snapshots ≡ 64
  pub copy_rows : length (copy_heads copies) ≡ 128
  pub copied_words : length copied ≡ 2048

-- the counts are within their tables
pub record Counted (h : Heads) : Type 0 where
  pub pending_count : h.pending ≤ 128
  pub past_count : h.past ≤ 256
  pub snapshot_count : h.snapshots ≤ 64
  pub copy_count : h.copies ≤ 128
