-- A number below ten is its one digit, and else the last digit stands behind those of a tenth.
use Rattle.std.proofs.Common.{List, ℕ, ◌∷◌, [], ◌++◌, ◌/◌, ◌%◌, ap, ◌∙◌, sym, arith}
use native.Mathlib.Nat.{mod-lt}
use lib.ListN.{length, length-append}
use Rattle.answers.specs.Says.{digit, decimal}
use Rattle.answers.proofs.Decimals.{decimal_one, decimal_more, decimal_short, tenth_length, number_fits}
use Rattle.answers.proofs.Lines.{then_all}
use Rattle.answers.proofs.line.Line.+number.Goals as goal

pub returns-then-n-lt10-clause-text : goal.returns-then-n-lt10-clause-text
returns-then-n-lt10-clause-text t c = c.digit.ensures ∙ ap (λ (l : List ℕ). c.args.self.now ++ l) (sym (decimal_one c.args.n c.if-n-lt10.true))

pub digit-requires-2 : goal.digit-requires-2
digit-requires-2 t c =
    let l = decimal_short c.args.n c.ranges.n.fits in
    let e = tenth_length c.args.n (omega arith) in
    let f = ap length c.number.ensures.text in
    let g = simp length-append at f in
    (omega arith, mod-lt c.args.n (omega arith))

whole : goal.returns-clause-text
whole t c =
    let last = digit (c.args.n % 10) ∷ [] in
    then_all c.args.self.now (decimal (c.args.n / 10)) last c.number.ensures.text c.digit-2.ensures (sym (decimal_more c.args.n (omega arith)))

pub returns-clause-text : goal.returns-clause-text
returns-clause-text = whole

pub returns-clause-short : goal.returns-clause-short
returns-clause-short t c = number_fits c.args.self.now c.args.n c.ranges.n.fits (whole t c)
