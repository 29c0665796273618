-- As many as there are, and no more than a store has at most, are the first ones up to that many.
use mathlib.Core.Path.{◌≡◌}
use native.Mathlib.Omega.{arith}
use Prim.Native.Nat.{min}
use lib.ListN.{length}
use Rattle.std.proofs.lemmas.List.{take_min}
use Rattle.reads.proofs.padded.Goals as goal

pub returns-clause-first : goal.returns-clause-first
returns-clause-first c =
    let n : c.min.result ≡ min 64 (length c.args.stamps.now) = omega (arith, c.min.ensures) in
    rw (c.snapshot_rows.ensures, n, take_min 64 c.args.stamps.now)
