-- The snapshots added, which ascend, and the past values that live by them make the store after the message.
use borrow.Author.Rules.{rules}
use Rattle.gossips.proofs.Applying.{applied_whole}
use Rattle.gossips.proofs.apply_gossip.Goals as goal

pub returns : goal.returns
returns c =
    let s = c.args.store.now in
    applied_whole s c.args.curr c.args.stamps.now c.requires (search rules) c.add_known-store.new.snapshots c.add_known-store.result c.add_known-store.ensures c.drop_past.new.store c.drop_past.ensures
