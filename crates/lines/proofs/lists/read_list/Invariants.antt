-- `lists::read_list` meets its contract: what is stored, with what is left to read, is the whole list.
use Rattle.lines.proofs.Storing.{Stored}
use Rattle.lines.specs.Lines.{items}
use Rattle.lines.specs.Promises.{ahead}
use lib.ListN.{length}
use Prim.Native.Nat.{◌-◌}
use Rattle.lines.proofs.lists.read_list.Given as goal

abbrev pub invariant-loop-span : goal.invariant-loop-span
invariant-loop-span l = Stored (items l.row (ahead l.words)) (items l.row (ahead l.fn.words)) l.listed.firsts l.listed.seconds l.count

abbrev pub decreases-loop-span : goal.decreases-loop-span
decreases-loop-span l = length l.words.text.now - l.words.at
