-- `read_line` meets its contract: the text is the run before the first `#`.
use Rattle.lines.proofs.Calling.{line_read}
use Rattle.lines.proofs.Placing.{line_heard}
use Rattle.lines.specs.Lines.{parsed, Heard}
use mathlib.Core.Path.{sym, subst}
use Rattle.lines.proofs.read_line.Goals as goal

pub returns : goal.returns
returns c =
    let e = line_read c.args.line.now c.run_of-end.result c.run_of-end.ensures.value c.read_text.ensures in
    record { reading = e; heard = subst (Heard c.args.line.now (parsed c.args.line.now).word) (sym e.answered) (line_heard c.args.line.now) }
