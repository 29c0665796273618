-- Document 01, "What the store is": the table of limits.
use Rattle.std.specs.Prelude.{ℕ}

abbrev pub pages : ℕ
pages = 32

abbrev pub slots : ℕ
slots = 16

abbrev pub objects : ℕ
objects = 512

abbrev pub most_writes : ℕ
most_writes = 16

abbrev pub most_stamps : ℕ
most_stamps = 16

abbrev pub most_pending : ℕ
most_pending = 128

abbrev pub most_past : ℕ
most_past = 256

abbrev pub most_snapshots : ℕ
most_snapshots = 64

abbrev pub most_copies : ℕ
most_copies = 128

abbrev pub most_journal : ℕ
most_journal = 65535

-- "A stamp is a u64: clock tick (milliseconds) x 256 + node number"
abbrev pub ticks : ℕ
ticks = 256

-- "a tick is at most 2^56 - 1"
abbrev pub last_tick : ℕ
last_tick = 72057594037927935
