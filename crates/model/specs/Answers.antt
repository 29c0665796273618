-- Document 01, "Numbers answered": the code and the number of each answer.
use Rattle.std.specs.Prelude.{ℕ, Bool, eqb}
use Rattle.model.specs.declared.Answer.{Answer}
use Rattle.model.specs.declared.Answer.TheVariants.{Done, Nothing, Damaged, Shape, Twice, Late, Gap, Conflict, PendingFull, PastFull, SnapshotsFull, ArchiveFull, NoRoom, Ahead, NoSnapshot, Version, Malformed, Contradiction}

abbrev pub code_of : Answer → ℕ
code_of (Done n) = 0
code_of (Nothing n) = 1
code_of Damaged = 2
code_of Shape = 3
code_of Twice = 4
code_of (Late n) = 5
code_of (Gap n) = 6
code_of (Conflict n) = 7
code_of PendingFull = 8
code_of PastFull = 9
code_of SnapshotsFull = 10
code_of ArchiveFull = 11
code_of (NoRoom n) = 12
code_of (Ahead n) = 13
code_of NoSnapshot = 14
code_of (Version n) = 15
code_of (Malformed n) = 16
code_of (Contradiction n) = 17

abbrev pub number_of : Answer → ℕ
number_of (Done n) = n
number_of (Nothing n) = n
number_of Damaged = 0
number_of Shape = 0
number_of Twice = 0
number_of (Late n) = n
number_of (Gap n) = n
number_of (Conflict n) = n
number_of PendingFull = 0
number_of PastFull = 0
number_of SnapshotsFull = 0
number_of ArchiveFull = 0
number_of (NoRoom n) = n
number_of (Ahead n) = n
number_of NoSnapshot = 0
number_of (Version n) = n
number_of (Malformed n) = n
number_of (Contradiction n) = n

-- "Codes from 2 up change nothing", and 1 writes no record: only code 0 changes anything
abbrev pub is_done : Answer → Bool
is_done a = eqb (code_of a) 0
