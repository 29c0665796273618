-- The length is judged first, then that the bytes are there, then the record. Each answer of the code is one of the model's.
use Prim.Native.Nat.{◌+◌}
use mathlib.Core.Path.{◌≡◌, sym, ◌∙◌}
use native.Mathlib.Omega.{arith}
use Rattle.model.specs.Records.{step_at}
use Rattle.journal.specs.Heads.{head_step}
use Rattle.std.specs.declared.option.Option.{Option}
use Rattle.journal.specs.declared.walk.Record.{Record}
use Rattle.journal.proofs.Walks.{at_end, at_torn, at_outside, at_cut, at_read, told_step}
use Rattle.journal.proofs.walk.step_at.Goals as goal
use Rattle.journal.proofs.walk.step_at.Goals.{After-read_record}

pub returns-then-s-at : goal.returns-then-s-at
returns-then-s-at c = at_end c.args.s.now c.args.p.at (omega arith)

pub returns-then-left-lt2 : goal.returns-then-left-lt2
returns-then-left-lt2 c =
    let a = c.args in
    at_torn a.s.now a.p.at (omega arith) (omega arith)

pub returns-then-length-lt-SHORTEST : goal.returns-then-length-lt-SHORTEST
returns-then-length-lt-SHORTEST c =
    let a = c.args in
    at_outside a.s.now a.p.at c.get_be-length.ensures (omega arith) (λ lo hi. omega (arith, c.then-length-lt-SHORTEST.either))

pub returns-then-left-length : goal.returns-then-left-length
returns-then-left-length c =
    let a = c.args in
    at_cut a.s.now a.p.at c.get_be-length.ensures (omega arith) (omega arith) (omega arith) (omega arith)

-- what is told of a record once it is read
read : {x : Option Record} (c : After-read_record) → c.read_record.result ≡ x
    → told_step x c.args.p.at (c.args.p.at + 2 + c.get_be-length.result) ≡ head_step (step_at c.args.s.now c.args.p.at)
read c e =
    let a = c.args in
    at_read a.s.now a.p.at c.get_be-length.ensures (omega arith) (omega arith) (omega arith) (omega arith) (sym e ∙ c.read_record.ensures)

pub returns-in-Some : goal.returns-in-Some
returns-in-Some c = read (goal.at.returns-in-Some c).After-read_record c.in-Some.is

pub returns-in-None : goal.returns-in-None
returns-in-None c = read (goal.at.returns-in-None c).After-read_record c.in-None.is
