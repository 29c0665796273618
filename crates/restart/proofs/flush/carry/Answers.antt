-- A held store is ready for a flush, and where the judge said yes the store with the flush fits its tables.
use Prim.Native.Nat.{ℕ, ◌<◌}
use mathlib.Core.Path.{sym, ◌∙◌}
use Rattle.tables.specs.declared.Store.{Store}
use Rattle.tables.specs.Contents.{stored}
use Rattle.flushes.specs.Promises.{Ready}
use Rattle.flushes.proofs.Told.{accepted_room}
use Rattle.restart.specs.Turns.{Held}
use Rattle.restart.proofs.Holding.{sound}
use Rattle.restart.proofs.Turning.{was_accepted}
use Rattle.restart.proofs.flush.carry.Goals as goal

ready : (s : Store) (page : ℕ) → Held s → page < 32 → Ready s page
ready s page h b = let u = sound s h in record { counted = u.counted; in_range = b; single = u.once; rising = u.rising }

pub judge_flush-verdict-requires : goal.judge_flush-verdict-requires
judge_flush-verdict-requires c = ready c.args.store.now c.args.page c.requires.held c.requires.page_bound

pub apply_flush-requires-clause-ready : goal.apply_flush-requires-clause-ready
apply_flush-requires-clause-ready c = ready c.args.store.now c.args.page c.requires.held c.requires.page_bound

pub apply_flush-requires-clause-room : goal.apply_flush-requires-clause-room
apply_flush-requires-clause-room c =
    accepted_room (stored c.args.store.now) c.args.page
    (sym c.judge_flush-verdict.ensures.verdict ∙ was_accepted c.judge_flush-verdict.result (sym c.accepts.ensures ∙ c.if-not-accepts.false))
