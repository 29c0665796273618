-- The tables that a change leaves word for word, whatever it answers.
use Rattle.std.specs.Prelude.{◌≡◌}
use Rattle.tables.specs.declared.Store.{Store}

-- a commit writes entries and past values alone
pub record CommitKept (s s' : Store) : Type 0 where
  pub disk_stays : s'.written.disk ≡ s.written.disk
  pub dated_stays : s'.written.dated ≡ s.written.dated
  pub snapshots_stay : s'.snapshots ≡ s.snapshots
  pub copies_stay : s'.copies ≡ s.copies
  pub copied_stays : s'.copied ≡ s.copied

-- a message writes past values and snapshots alone
pub record GossipKept (s s' : Store) : Type 0 where
  pub disk_stays : s'.written.disk ≡ s.written.disk
  pub dated_stays : s'.written.dated ≡ s.written.dated
  pub pending_stays : s'.written.pending ≡ s.written.pending
  pub copies_stay : s'.copies ≡ s.copies
  pub copied_stays : s'.copied ≡ s.copied

-- a flush writes every table but the snapshots
pub record FlushKept (s s' : Store) : Type 0 where
  pub snapshots_stay : s'.snapshots ≡ s.snapshots
