-- Lines as a reader sees them.
use mathlib.Core.Path.{◌≡◌, refl}
use mathlib.Core.List.{[], ◌∷◌}
use lib.IntN.{pos, negsuc}
use lib.ListN.{replicate}
use Rattle.model.specs.declared.Answer.TheVariants.{Done, Damaged, Late, Gap, NoRoom, Version, Malformed}
use Rattle.answers.specs.Says.{decimal, text, answer_line, opened_line, page_line, known_line, standing_line, fault_line}
use Rattle.answers.specs.Hex.{bytes_line}
use Rattle.answers.specs.Records.{commit_line, gossip_line, flush_line, end_line, torn_line, refusal_line}

largest : decimal 18446744073709551615 ≡ text "18446744073709551615"
unfolding decimal
largest = refl

done : answer_line (Done 0) ≡ text "0 0 Done\n"
unfolding decimal
done = refl

full : answer_line (NoRoom 65535) ≡ text "12 65535 No journal room\n"
unfolding decimal
full = refl

other : opened_line (Version 2) ≡ text ": 15 2 Version\n"
unfolding decimal
other = refl

page : page_line (Done 7) (replicate 16 10) ≡ text "0 7 Done 10 10 10 10 10 10 10 10 10 10 10 10 10 10 10 10\n"
unfolding decimal
page = refl

short : page_line (Done 7) (10 ∷ []) ≡ text "0 7 Done\n"
unfolding decimal
short = refl

refused : page_line (Late 5) (replicate 16 10) ≡ text "5 5 Late\n"
unfolding decimal
refused = refl

standing : standing_line (Done 0) (record { pending = 1; past = 2; snapshots = 1; copies = 0; lag = negsuc 2 }) ≡ text "0 0 Done 1 2 1 0 -3\n"
unfolding decimal
standing = refl

unsaid : standing_line Damaged (record { pending = 0; past = 0; snapshots = 0; copies = 0; lag = pos 0 }) ≡ text "2 0 Damaged\n"
unfolding decimal
unsaid = refl

known : known_line (Done 0) 110 120 (105 ∷ []) ≡ text "0 0 Done 110 120 105\n"
unfolding decimal
known = refl

many : known_line (Done 0) 110 120 (replicate 65 10) ≡ text "0 0 Done\n"
unfolding decimal
many = refl

bytes : bytes_line (Done 19) (0 ∷ 17 ∷ 4 ∷ 171 ∷ 255 ∷ []) ≡ text "0 19 Done 001104abff\n"
unfolding decimal
bytes = refl

nobytes : bytes_line (Gap 120) [] ≡ text "6 120 Gap\n"
unfolding decimal
nobytes = refl

toomany : bytes_line (Done 0) (replicate 513 0) ≡ text "0 0 Done\n"
unfolding decimal
toomany = refl

fault : fault_line 3 7 21 ≡ text "? a number of 2^64 or more at line 7 column 21\n"
unfolding decimal
fault = refl

oddfault : fault_line 8 2 6 ≡ text "? an odd number of hex digits at line 2 column 6\n"
unfolding decimal
oddfault = refl

nofault : fault_line 9 1 1 ≡ text "? not a call at line 1 column 1\n"
unfolding decimal
nofault = refl

nocall : fault_line 0 3 1 ≡ text "? no such call at line 3 column 1; help lists them\n"
unfolding decimal
nocall = refl

commit : commit_line 100 (0 ∷ []) (7 ∷ []) 1 22 ≡ text "commit 100 0=7  # 1 22\n"
unfolding decimal
commit = refl

unequal : commit_line 100 (0 ∷ 1 ∷ []) (7 ∷ []) 1 22 ≡ text "commit 100  # 1 22\n"
unfolding decimal
unequal = refl

gossip : gossip_line 0 120 (105 ∷ 110 ∷ []) 23 34 ≡ text "gossip 0 120 105 110  # 23 34\n"
unfolding decimal
gossip = refl

flush : flush_line 3 57 10 ≡ text "flush 3  # 57 10\n"
unfolding decimal
flush = refl

ending : end_line 67 ≡ text "# 67 end\n"
unfolding decimal
ending = refl

torn : torn_line 67 5 ≡ text "# 67 torn, 5 bytes\n"
unfolding decimal
torn = refl

refusal : refusal_line (Malformed 67) ≡ text "# 16 67 Malformed\n"
unfolding decimal
refusal = refl
