-- The next word behind the stamps, and the count.
use Rattle.std.proofs.Common.{arith}
use Rattle.coordinator.proofs.Grants.{added}
use Rattle.coordinator.proofs.State.add.Goals as goal

pub returns : goal.returns
returns c = added c.args.self.now c.args.stamp (omega arith) c.requires
