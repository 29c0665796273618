-- What is left of the walk, from the store that the struct holds, is the whole walk.
use mathlib.Core.Path.{refl, ap, sym, ◌∙◌}
use native.Mathlib.Omega.{arith}
use lib.ListN.{length}
use Rattle.model.specs.Store as store
use Rattle.model.specs.Restart as model
use Rattle.tables.specs.Rows.{pendings}
use Rattle.restart.proofs.Entered.{blank_at}
use Rattle.restart.proofs.Standing.{stands}
use Rattle.restart.proofs.Holding.{fresh_held, fresh_indexed}
use Rattle.restart.proofs.Walking.{moves_on, walked_end, walked_short, walked_malformed, walked_contradicts, walked_on}
use Rattle.restart.proofs.walk.walk.Goals as goal

pub loop-offset-init : goal.loop-offset-init
loop-offset-init c =
    let j = c.args.journal.now in
    let s = c.wipe.new.store in
    let e = c.wipe.ensures in (
      record { fuel = length j; enough = omega arith; held = fresh_held e.holds e.counted; rest = ap (model.walk (length j) j 1) e.holds },
      record { objects_in = refl; tells = λ _. fresh_indexed s.heads.pending (pendings s.written.pending) (ap (λ (st : store.Store). st.pending) e.holds) refl (blank_at 512) },
    )

pub returns-in-End : goal.returns-in-End
returns-in-End c = walked_end c.loop-offset.invariant.0 (sym c.read_at.ensures ∙ c.in-End.is)

pub returns-in-Short : goal.returns-in-Short
returns-in-Short c = walked_short c.loop-offset.invariant.0 (sym c.read_at.ensures ∙ c.in-Short.is)

pub returns-in-Malformed : goal.returns-in-Malformed
returns-in-Malformed c = walked_malformed c.loop-offset.invariant.0 (sym c.read_at.ensures ∙ c.in-Malformed.is)

-- the record that is read, and the turn that reads it
pub replay-requires-clause-stands : goal.replay-requires-clause-stands
replay-requires-clause-stands c = stands c.args.journal.now c.loop-offset.place.at (sym c.read_at.ensures ∙ c.in-Whole.is)

pub returns-then-not-replay : goal.returns-then-not-replay
returns-then-not-replay c =
    walked_contradicts c.loop-offset.invariant.0 (sym c.read_at.ensures ∙ c.in-Whole.is) c.replay.ensures.carried c.if-not-replay.true

pub loop-offset-smaller : goal.loop-offset-smaller
loop-offset-smaller c =
    let m = moves_on c.args.journal.now c.loop-offset.place.at store.fresh (sym c.read_at.ensures ∙ c.in-Whole.is) in
    omega (arith, m.0, m.1)

pub loop-offset-preserved : goal.loop-offset-preserved
loop-offset-preserved c =
    (walked_on c.loop-offset.invariant.0 (sym c.read_at.ensures ∙ c.in-Whole.is) c.replay.ensures.carried c.if-not-replay.false, c.replay.ensures.follows_2)
