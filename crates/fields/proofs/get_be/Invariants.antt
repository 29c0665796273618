-- `fields::get_be` meets its contract: the bytes read so far, with those that are left, make the number; so many bytes have room in a u64.
use Prim.Native.Nat.{◌<◌, ◌^◌}
use mathlib.Core.Path.{◌≡◌}
use lib.ListN.{take, drop}
use Rattle.model.specs.Bytes.{from_be, from_be_after}
use Rattle.fields.proofs.get_be.Given as goal

abbrev pub invariant-loop-byte : goal.invariant-loop-byte
invariant-loop-byte l = (l.a < 256 ^ l.byte-index) × (from_be_after l.a (drop l.byte-index (take l.width (drop l.at l.s))) ≡ from_be (take l.width (drop l.at l.s)))
