-- The four fields one behind another are the request's bytes.
use Rattle.requests.proofs.Laws.{fields}
use Rattle.requests.proofs.Request.write.Goals as goal

pub returns : goal.returns
returns c =
    fields c.args.buffer.now c.args.self.from c.args.self.to c.put_be.ensures c.put_be-2.ensures c.put_be-3.ensures c.put_be-4.ensures
