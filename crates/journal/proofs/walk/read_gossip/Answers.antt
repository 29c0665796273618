-- Each test of the code settles an answer for a gossip message's body; what passes them all is sound.
use mathlib.Core.Path.{sym, ◌∙◌}
use Rattle.journal.proofs.Walks.{gossip_uncounted, gossip_sound}
use Rattle.journal.proofs.walk.read_gossip.Goals as goal

pub returns-in_err-count : goal.returns-in_err-count
returns-in_err-count c = let u = gossip_uncounted c.args.body.now c.in_err-count.ensures in cc

pub returns : goal.returns
returns c =
    gossip_sound c.args.body.now c.in_ok-count.ensures c.get_be-prev.ensures c.get_be-curr.ensures
    (sym c.stamps_good.ensures ∙ c.if-not-stamps_good.false)
