-- Where the writes fit whatever they add there is room for them; else they are weighed.
use mathlib.Core.Path.{◌∙◌, sym}
use Rattle.model.specs.Changes.{paired}
use Rattle.commits.proofs.Judged.{roomy_room}
use Rattle.commits.proofs.fitting.judge.Goals as goal

pub returns-then-roomy : goal.returns-then-roomy
returns-then-roomy c vs l =
    let a = c.args in
    c.judge_with_room.ensures (paired a.objects.now vs)
    (roomy_room a.store.now a.t a.objects.now vs c.requires.once l (sym c.roomy.ensures ∙ c.if-roomy.true))
