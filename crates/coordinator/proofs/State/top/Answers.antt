-- With no stamp it is what was sent; else the larger of that and the last stamp.
use Rattle.std.proofs.Common.{◌≡◌, ◌∙◌, max, List, ℕ, true, ap}
use Rattle.model.specs.Lists.{rising_from}
use Rattle.model.specs.Coordinator.{highest}
use Rattle.coordinator.proofs.Grants.{top_is}
use Rattle.coordinator.proofs.State.top.Goals as goal

pub returns-in-Some : goal.returns-in-Some
returns-in-Some c =
    let g = c.granted in
    let sent = c.args.self.now.sent in
    let last = c.in-Some.ensures.item.3 in
    let rises : rising_from 0 g.result.now ≡ true = ap (rising_from 0) g.ensures ∙ c.requires.rises in
    c.max.ensures ∙ ap (max sent) (last.1 0) ∙ top_is g.result.now sent rises last.0 ∙ ap (λ (l : List ℕ). max (highest l) sent) g.ensures
