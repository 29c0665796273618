-- A request is answered by its message; bytes that are none are refused, a damaged coordinator first.
use Rattle.std.proofs.Common.{◌∙◌, sym}
use Rattle.model.specs.Exchange.{request_in, serve}
use Rattle.coordinator.specs.States.{held}
use Rattle.coordinator.proofs.Saying.{serve_for, serve_damaged, serve_none}
use Rattle.coordinator.proofs.State.serve.Goals as goal

pub returns-then-damaged : goal.returns-then-damaged
unfolding serve
returns-then-damaged c =
    serve_damaged (held c.args.self.now) c.args.buffer.now (request_in c.args.request.now) c.in-None.ensures
    (sym c.damaged.ensures ∙ c.if-damaged.true)

pub returns-in-Some : goal.returns-in-Some
unfolding serve
returns-in-Some c =
    serve_for (held c.args.self.now) c.args.buffer.now (request_in c.args.request.now) _ _ c.in-Some.ensures c.message.ensures

pub returns-else-damaged : goal.returns-else-damaged
unfolding serve
returns-else-damaged c =
    serve_none (held c.args.self.now) c.args.buffer.now (request_in c.args.request.now) c.in-None.ensures
    (sym c.damaged.ensures ∙ c.if-damaged.false)
