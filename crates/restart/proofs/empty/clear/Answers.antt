-- A word's copy is the word.
use native.Mathlib.Omega.{arith}
use mathlib.Core.Path.{◌≡◌, ap, ◌∙◌}
use lib.ListN.{length, replicate}
use Rattle.restart.specs.Turns.{zeros}
use Rattle.restart.proofs.empty.clear.Goals as goal

pub returns : goal.returns
unfolding zeros
returns c =
    let l : length c.args.words.now ≡ 512 = omega arith in
    c.fill.ensures.after (λ y e. e) ∙ ap (λ n. replicate n 0) l
