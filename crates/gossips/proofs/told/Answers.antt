-- A stamp beyond the bound tells of all: none behind it is up to the bound.
use Rattle.gossips.proofs.Rising.{rest_none}
use Rattle.gossips.proofs.told.Goals as goal

pub returns-else-stamps-i : goal.returns-else-stamps-i
returns-else-stamps-i c = rest_none c.args.upto 0 c.args.stamps.now c.args.i c.if-i-stamps.true c.requires c.if-stamps-i.false
