-- A number's line calls itself with a tenth, so the measure is the number.
use Rattle.answers.proofs.line.Line.+number.Given as goal

abbrev pub decreases-number : goal.decreases-number
decreases-number l = l.n
