-- The path stands in front, and what is behind it has the room that is left.
use Rattle.std.proofs.Common.{rules}
use Rattle.files.proofs.Joining.{joined}
use Rattle.files.proofs.text.joined.Goals as goal

pub returns : goal.returns
returns c = joined c.args.path.now c.args.suffix.now 4096 (rw c.new-name.ensures at c.add.ensures) c.add-2.ensures
