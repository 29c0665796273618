-- `State::restart` meets its contract: bytes that are accepted are taken, and any others leave a fresh state.
use Rattle.coordinator.proofs.Restarting.{restarted_none, restarted_refused, restarted_done}
use Rattle.coordinator.proofs.State.restart.Goals as goal

pub returns-then-bytes-eq0 : goal.returns-then-bytes-eq0
returns-then-bytes-eq0 c = restarted_none c.args.bytes.now c.if-bytes-eq0.true c.fresh.ensures.0 c.fresh.ensures.1

pub returns-in-Ok : goal.returns-in-Ok
returns-in-Ok c = restarted_done c.args.bytes.now c.in-Ok.ensures

pub returns-in-Err : goal.returns-in-Err
returns-in-Err c = restarted_refused c.args.bytes.now c.in-Err.ensures c.fresh-in-Err.ensures.1
