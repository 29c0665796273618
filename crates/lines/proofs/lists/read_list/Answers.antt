-- `lists::read_list` meets its contract: what is stored, with what is left to read, is the whole list.
use Rattle.lines.proofs.Storing.{list_turn}
use Rattle.lines.specs.Promises.{bytes_of, ahead}
use Rattle.lines.specs.Words.{words_from}
use Prim.Native.Nat.{◌+◌}
use mathlib.Core.Path.{sym, ◌∙◌}
use Rattle.lines.proofs.lists.read_list.Goals as goal

pub loop-span-preserved : goal.loop-span-preserved
loop-span-preserved c =
    let v = c.loop-span in
    let text = v.words.text.now in
    let s = c.in-Some.span in
    let n = c.in-Some.ensures in
    let i = rw n.text at c.item_at.ensures in
    let e = c.keep-count.ensures in
    rw (n.text, n.behind)
    (list_turn c.args.row (ahead v.words) v.invariant (s.from + 1) (bytes_of text s) (words_from text s.to) n.stands.words
    (sym i ∙ c.in_ok-a.was) _ _ _ e.value e.firsts_after e.seconds_after)
