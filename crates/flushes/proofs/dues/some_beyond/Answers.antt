-- What the library tells of a test of each word is the model's.
use Rattle.std.proofs.Common.{rules, tests, sym, ◌∙◌, ltb}
use Rattle.std.proofs.lemmas.Iterator.{YieldsList-from_slice}
use Rattle.std.proofs.lemmas.Iterator.Search.{any_from_yields_List}
use Rattle.flushes.proofs.Listing.{any_listed}
use Rattle.flushes.proofs.dues.some_beyond.Goals as goal

pub returns : goal.returns
returns c =
    let f = ltb c.args.s in
    let ws = c.args.words.now in
    any_from_yields_List f _ _ _ c.any.ensures.ran (YieldsList-from_slice ws cc) (λ x b q k. search (rules, tests)) ∙ sym (any_listed f ws)
