-- Each answer hands its tests to its law; past all of them the request is written.
use mathlib.Core.Path.{sym, ◌∙◌}
use Rattle.exchange.proofs.Asked.{ask_damaged, ask_short, ask_behind, ask_done}
use Rattle.exchange.proofs.asking.ask.Goals as goal

pub returns-then-damaged : goal.returns-then-damaged
returns-then-damaged c = ask_damaged _ c.args.to c.args.buffer.now (sym c.damaged.ensures ∙ c.if-damaged.true)

pub returns-then-buffer-lt19 : goal.returns-then-buffer-lt19
returns-then-buffer-lt19 c = ask_short _ c.args.to c.args.buffer.now (sym c.damaged.ensures ∙ c.if-damaged.false) c.if-buffer-lt19.true

pub returns-then-to-h : goal.returns-then-to-h
returns-then-to-h c = ask_behind _ c.args.to c.args.buffer.now (sym c.damaged.ensures ∙ c.if-damaged.false) c.if-buffer-lt19.false c.if-to-h.true

pub returns : goal.returns
returns c = ask_done _ c.args.to c.args.buffer.now (sym c.damaged.ensures ∙ c.if-damaged.false) c.if-buffer-lt19.false c.if-to-h.false c.write.ensures
