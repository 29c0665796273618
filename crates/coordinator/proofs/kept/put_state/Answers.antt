-- `kept::put_state` meets its contract: the fields at their places, and the stamps behind them, are the state's bytes.
use Rattle.coordinator.proofs.Keeping.{state_written}
use Rattle.coordinator.proofs.kept.put_state.Goals as goal

pub returns : goal.returns
returns c =
    state_written c.args.sent c.args.stamps.now c.args.buffer.now c.requires
    c.put_be.ensures c.put_be-2.ensures c.put_be-3.ensures c.put_stamps.ensures
