-- What the library tells of a test of each object is the rule's.
use Rattle.std.proofs.Common.{rules, tests, ◌∙◌, ltb}
use Rattle.std.proofs.lemmas.Iterator.{YieldsList-from_slice}
use Rattle.std.proofs.lemmas.Iterator.Search.{all_from_yields_List}
use Rattle.rules.proofs.Laws.{all_listed}
use Rattle.rules.proofs.all_objects.Goals as goal

pub returns : goal.returns
returns c =
    let os = c.args.objects.now in
    all_from_yields_List (λ o. ltb o 512) _ _ _ c.all.ensures.ran (YieldsList-from_slice os cc) (λ x b q k. search (rules, tests))
    ∙ all_listed (λ o. ltb o 512) os
