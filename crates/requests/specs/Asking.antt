-- What the code tells of a request.
use Rattle.std.specs.declared.option.Option.{Option}
use Rattle.std.specs.Prelude.{Some, None}
use Rattle.model.specs.Exchange.{Requested, no_request, request}
use Rattle.requests.specs.declared.Request.{Request}

abbrev pub asked : Requested → Option Request
asked no_request = None
asked (request from to) = Some (record { from = from; to = to })
