-- The definitions on lines as a keeper types them, by computation.
use Prim.Native.Nat.{ℕ}
use Prim.Native.String.{String}
use mathlib.Core.Path.{◌≡◌, refl}
use mathlib.Core.List.{List, [], ◌∷◌, ◌++◌}
use lib.ListN.{replicate}
use Rattle.std.specs.Prelude.{Result, Ok}
use Rattle.lines.specs.Mistakes.{wrong}
use Rattle.lines.specs.declared.Mistake.{Mistake}
use lib.Chars.{codes}
use Rattle.lines.specs.Lines.{parsed}
use Rattle.lines.specs.Hex.{hex_bytes}
use Rattle.lines.specs.Orders.{ordered}
use Rattle.lines.specs.declared.Fault.TheVariants.{Unknown, Missing, Digit, Large, Equals, Extra, Hex, Long, Odd}
use Rattle.lines.specs.declared.Topic.TheVariants as topic
use Rattle.lines.specs.declared.Call.{Call}
use Rattle.lines.specs.declared.Call.TheVariants as call
use Rattle.lines.specs.declared.orders.Order.{Order}
use Rattle.lines.specs.declared.orders.Order.TheVariants as order

abbrev Says : String → Result Call Mistake → Type 0
Says line c = (parsed (codes line)).call ≡ c

abbrev Lists : String → List ℕ → List ℕ → Type 0
Lists line firsts seconds = ((parsed (codes line)).firsts ≡ firsts) × ((parsed (codes line)).seconds ≡ seconds)

blank_lines : Says "" (Ok call.Blank) × Says "  \t# commit 1" (Ok call.Blank)
unfolding parsed
blank_lines = (refl, refl)

a_commit : Says "commit 7 5=1 06=18446744073709551615" (Ok (call.Commit 7 2)) × Lists "commit 7 5=1 06=18446744073709551615" (5 ∷ 6 ∷ []) (1 ∷ 18446744073709551615 ∷ [])
unfolding parsed
a_commit = (refl, (refl, refl))

a_gossip : Says "gossip 0 9 3 4 # two" (Ok (call.Gossip 0 9 2)) × Lists "gossip 0 9 3 4 # two" (3 ∷ 4 ∷ []) []
unfolding parsed
a_gossip = (refl, (refl, refl))

others : Says "flush 0031" (Ok (call.Flush 31)) × Says "read 4 5" (Ok (call.Read 4 5)) × Says "clock 4 5" (Ok (call.Clock 4 5)) × Says "now 1" (Ok (call.Now 1))
    × Says "\tstanding \r" (Ok call.Standing) × Says "fresh" (Ok call.Fresh) × Says "known" (Ok call.Known) × Says "quit" (Ok call.Quit) × Says "exit" (Ok call.Quit) × Says "cut 0" (Ok (call.Cut 0)) × Says "ask 9" (Ok (call.Ask 9))
unfolding parsed
others = (refl, refl, refl, refl, refl, refl, refl, refl, refl, refl, refl)

help : Says "help#" (Ok (call.Help topic.Calls)) × Says "help codes" (Ok (call.Help topic.Codes)) × Says "help standing" (Ok (call.Help topic.Standing))
    × Says "help x codes" (wrong Unknown 6) × Says "help codes x" (wrong Extra 12)
unfolding parsed
help = (refl, refl, refl, refl, refl)

-- 18 stamps: 17 are kept, and the words behind them are judged all the same
long_lists : Says "gossip 0 9 1 1 1 1 1 1 1 1 1 1 1 1 1 1 1 1 1 1" (Ok (call.Gossip 0 9 17)) × Says "gossip 0 9 1 1 1 1 1 1 1 1 1 1 1 1 1 1 1 1 1 1 x" (wrong Digit 48)
unfolding parsed
long_lists = (refl, refl)

words_wrong : Says "Flush 1" (wrong Unknown 1) × Says "commit" (wrong Missing 7) × Says "read 4 # 5" (wrong Missing 8) × Says "now 1 2" (wrong Extra 7)
unfolding parsed
words_wrong = (refl, refl, refl, refl)

numbers_wrong : Says "read 4x 5" (wrong Digit 7) × Says "flush 18446744073709551616" (wrong Large 7) × Says "flush 99999999999999999999y" (wrong Digit 27)
unfolding parsed
numbers_wrong = (refl, refl, refl)

writes_wrong : Says "commit 1 5" (wrong Equals 11) × Says "commit 1 5=" (wrong Missing 12) × Says "commit 1 =5" (wrong Missing 10)
    × Says "commit 1 5=+3" (wrong Digit 12) × Says "commit 1 5x=3" (wrong Digit 11) × Says "commit x 5" (wrong Digit 8)
unfolding parsed
writes_wrong = (refl, refl, refl, refl, refl, refl)

-- ---- hex words
a_hear : Says " hear  00fF # three" (Ok (call.Hear 7 11)) × ((parsed (codes " hear  00fF # three")).word ≡ codes "00fF")
unfolding parsed
a_hear = (refl, refl)

hex_wrong : Says "hear" (wrong Missing 5) × Says "hear 0x1" (wrong Hex 7) × Says "hear 001" (wrong Odd 6) × Says "hear 00 1" (wrong Extra 9) × Says "hear 0g1 2" (wrong Hex 7)
unfolding parsed
hex_wrong = (refl, refl, refl, refl, refl)

-- 1024 digits are read; 1025 are too many before they are odd, and a byte that is no digit comes before both
a_thousand : ((parsed (codes "hear " ++ replicate 1024 48)).call ≡ Ok (call.Hear 5 1029)) × ((parsed (codes "hear " ++ replicate 1025 48)).call ≡ wrong Long 6)
    × ((parsed (codes "hear " ++ replicate 1025 48 ++ codes "x")).call ≡ wrong Hex 1031)
unfolding parsed
a_thousand = (refl, refl, refl)

the_bytes : (hex_bytes (codes "0009afAF") ≡ 0 ∷ 9 ∷ 175 ∷ 175 ∷ []) × (hex_bytes (codes "1g2") ≡ 16 ∷ [])
unfolding hex_bytes
the_bytes = (refl, refl)

-- ---- the coordinator's lines
abbrev Orders : String → Result Order Mistake → Type 0
Orders line o = (ordered (codes line)).order ≡ o

orders : Orders " # grant" (Ok order.Blank) × Orders "grant 7 255" (Ok (order.Grant 7 255)) × Orders "message 0 9" (Ok (order.Message 0 9)) × Orders "serve 0011" (Ok (order.Serve 6 10))
    × Orders "granted" (Ok order.Granted) × Orders "help" (Ok order.Help) × Orders "quit" (Ok order.Quit) × Orders "exit" (Ok order.Quit)
unfolding ordered
orders = (refl, refl, refl, refl, refl, refl, refl, refl)

orders_wrong : Orders "commit 1" (wrong Unknown 1) × Orders "grant 7" (wrong Missing 8) × Orders "message 0 x" (wrong Digit 11) × Orders "grant 7 8 9" (wrong Extra 11)
    × Orders "help codes" (wrong Extra 6) × Orders "serve 001 1" (wrong Odd 7) × Orders "serve" (wrong Missing 6)
unfolding ordered
orders_wrong = (refl, refl, refl, refl, refl, refl, refl)
