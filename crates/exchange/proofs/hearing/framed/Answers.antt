-- Each test that fails settles that there is no frame; the last one settles it where the others hold.
use mathlib.Core.Path.{sym, ◌∙◌}
use Rattle.exchange.proofs.Messages.{too_short, other_length, other_kind, too_many, by_size}
use Rattle.exchange.proofs.hearing.framed.Goals as goal

pub returns-then-bytes-lt-STAMPS_AT : goal.returns-then-bytes-lt-STAMPS_AT
returns-then-bytes-lt-STAMPS_AT c = too_short c.args.bytes.now c.if-bytes-lt-STAMPS_AT.true

pub returns-then-length-bytes : goal.returns-then-length-bytes
returns-then-length-bytes c = other_length c.args.bytes.now (λ e. c.if-length-bytes.true (c.get_be-length.ensures ∙ e))

pub returns-then-bytes : goal.returns-then-bytes
returns-then-bytes c = other_kind c.args.bytes.now c.if-bytes.true

pub returns-then-count-gt16 : goal.returns-then-count-gt16
returns-then-count-gt16 c = too_many c.args.bytes.now c.if-count-gt16.true

pub returns : goal.returns
returns c =
    by_size c.args.bytes.now c.if-bytes-lt-STAMPS_AT.false (sym c.get_be-length.ensures ∙ c.if-length-bytes.false) c.if-bytes.false c.if-count-gt16.false
