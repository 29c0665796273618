-- `orders::read_order` meets its contract: the text is the run before the first `#`.
use Rattle.lines.proofs.Ordering.{order_read}
use Rattle.lines.proofs.Placing.{line_served}
use Rattle.lines.specs.Orders.{ordered, Served}
use mathlib.Core.Path.{sym, subst}
use Rattle.lines.proofs.orders.read_order.Goals as goal

pub returns : goal.returns
returns c =
    let e = order_read c.args.line.now c.run_of-end.result c.run_of-end.ensures.value c.read_text.ensures in
    record { answered = e; served = subst (Served c.args.line.now (ordered c.args.line.now).word) (sym e) (line_served c.args.line.now) }
