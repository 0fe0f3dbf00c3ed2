use Rattle.std.proofs.Common.{arith}
use Rattle.golf_machine.proofs.TurnLaws.{some_run, whose}
use Rattle.golf_machine.proofs.turns.whose_turn.Goals as goal

pub shared_out-place-requires : goal.shared_out-place-requires
shared_out-place-requires c =
    let some = some_run c.args.state.now c.requires in
    omega (arith, some, c.runnable_count-count.ensures)

pub runnable_at-requires : goal.runnable_at-requires
runnable_at-requires c =
    let some = some_run c.args.state.now c.requires in
    omega (arith, some, c.runnable_count-count.ensures, c.shared_out-place.ensures.place)

pub returns : goal.returns
returns c = whose c.args.state.now c.args.number _ c.shared_out-place.result.0 c.runnable_count-count.result
    c.runnable_at.ensures.at c.shared_out-place.ensures.place c.runnable_count-count.ensures
