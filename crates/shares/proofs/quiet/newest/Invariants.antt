-- The newest so far, with the rows ahead, is the newest of all.
use mathlib.Core.Path.{◌≡◌}
use lib.ListN.{drop}
use Rattle.shares.specs.Shares.{rows_at}
use Rattle.shares.specs.Lulls.{newest_of}
use Rattle.shares.proofs.quiet.newest.Given as goal

abbrev pub invariant-loop-number : goal.invariant-loop-number
invariant-loop-number g l = newest_of (λ r. (g.R.Row.seen_of r).stamp) l.bound l.newest (rows_at g.R.Row.blank (g.R.Row.rows l.t) (drop l.number-index l.numbers))
    ≡ newest_of (λ r. (g.R.Row.seen_of r).stamp) l.bound l.least (rows_at g.R.Row.blank (g.R.Row.rows l.t) l.numbers)
