-- The known snapshots are those that the heads count.
use mathlib.Core.Path.{refl}
use native.Mathlib.Omega.{arith}
use Rattle.tables.specs.Contents.{stored}
use Rattle.tables.proofs.Counts.{up_to_take}
use Rattle.gossips.proofs.judge_gossip.Goals as goal

pub returns : goal.returns
returns c = let s = c.args.store.now in c.judge.ensures (stored s) (up_to_take 0 s.heads.snapshots s.snapshots (omega arith)) refl
