-- `State::take` meets its contract: the stamps that are taken settle an answer, and where all are, the state is what the bytes hold.
use Rattle.std.proofs.Common.{arith, drop}
use Rattle.coordinator.proofs.Restarting.{bad_stamp, good_stamps, risen_room, took}
use Rattle.coordinator.proofs.State.take.Goals as goal

pub returns-then-good-count : goal.returns-then-good-count
returns-then-good-count c =
    let s = c.args.self.now in
    let b = c.args.bytes.now in
    let z = c.in_ok-count.ensures in
    let r = risen_room s c.in_ok-count.count (drop 10 b) (omega arith) z.few c.take_stamps-good.ensures.0 in
    bad_stamp b c.requires z r (omega arith)

pub returns : goal.returns
returns c =
    let s = c.args.self.now in
    let b = c.args.bytes.now in
    let z = c.in_ok-count.ensures in
    let r = risen_room s c.in_ok-count.count (drop 10 b) (omega arith) z.few c.take_stamps-good.ensures.0 in
    good_stamps b c.requires z r (omega arith)
    (took s c.in_ok-count.count (drop 10 b) (omega arith) z.few _ c.take_stamps-good.ensures.1 (omega arith) c.get_be-self.ensures)
