-- Each test that fails settles that there is no request; past them all there is one.
use Rattle.std.proofs.Common.{◌∙◌, sym, arith}
use Rattle.requests.proofs.Laws.{other_size, other_length, other_kind, a_request}
use Rattle.requests.proofs.Request.read.Goals as goal

pub returns-then-bytes-ne19 : goal.returns-then-bytes-ne19
returns-then-bytes-ne19 c = other_size c.args.bytes.now (λ e. omega arith)

pub returns-then-get_be-ne-LENGTH : goal.returns-then-get_be-ne-LENGTH
returns-then-get_be-ne-LENGTH c = other_length c.args.bytes.now (λ e. omega (arith, c.get_be.ensures))

pub returns-then-bytes-ne-KIND : goal.returns-then-bytes-ne-KIND
returns-then-bytes-ne-KIND c = other_kind c.args.bytes.now (λ e. omega arith)

pub returns : goal.returns
returns c =
    rw (c.get_be-from.ensures, c.get_be-to.ensures)
    (a_request c.args.bytes.now (omega arith) (sym c.get_be.ensures ∙ omega arith) (omega arith))
