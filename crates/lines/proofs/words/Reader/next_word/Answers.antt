-- `words::Reader::next_word` meets its contract: the runs of blanks and of other bytes are those of the whole text from where they begin.
use Prim.Native.Nat.{◌+◌}
use mathlib.Core.Path.{refl}
use Rattle.lines.proofs.Spans.{Searched, stands, run_found}
use Rattle.lines.proofs.words.Reader.next_word.Goals as goal
use Rattle.lines.proofs.words.Reader.next_word.Goals.{After-run_of-2}

-- where the blanks end, and the word behind them
found : (c : After-run_of-2) → Searched c.args.self.now.text.now c.args.self.now.at
    (record { from = c.args.self.now.at + c.run_of.result; to = c.args.self.now.at + c.run_of.result + c.run_of-2.result })
found c =
    let r = c.args.self.now in
    run_found r.text.now r.at c.run_of.result r.within c.run_of.ensures.value c.run_of-2.result c.run_of-2.ensures.value

pub returns-then-from-to : goal.returns-then-from-to
returns-then-from-to c = record { none = (found (goal.at.returns-then-from-to c).After-run_of-2).none c.if-from-to.true; text = refl; behind = refl }

pub returns : goal.returns
returns c = record { stands = stands (found (goal.at.returns c).After-run_of-2) c.if-from-to.false; text = refl; behind = refl }
