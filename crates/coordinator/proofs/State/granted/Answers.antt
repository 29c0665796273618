-- The front of the table, as long as the count says.
use Rattle.std.proofs.Common.{sym, arith}
use Rattle.coordinator.proofs.States.{granted_is}
use Rattle.coordinator.proofs.State.granted.Goals as goal

pub returns : goal.returns
returns c = sym (granted_is c.args.self.now (omega arith) c.requires)
