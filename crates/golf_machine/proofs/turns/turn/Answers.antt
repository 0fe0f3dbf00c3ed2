use Rattle.std.proofs.Common.{◌≡◌, length, Some, arith}
use Rattle.std.proofs.lemmas.Result.{on_ok_weaker, IfOk-weaker}
use Rattle.golf_model.specs.State.{runnable}
use Rattle.golf_model.specs.Turn.{whose_turn}
use Rattle.golf_machine.proofs.TurnLaws.{some_run, turn-runs, whose, step-taken, wants-is}
use Rattle.golf_machine.proofs.turns.turn.Goals.{After-count-count, After-at-g}
use Rattle.golf_machine.proofs.turns.turn.Goals as goal

counted : (c : After-count-count) → c.count-count.result ≡ length (runnable c.args.state.now)
counted c = rw c.runnable-runnable.ensures.all at c.count-count.ensures

turns : (c : After-at-g) → whose_turn c.args.state.now c.args.number ≡ Some c.at-g.result.0
turns c = whose c.args.state.now c.args.number _ c.shared_out-place.result.0 c.count-count.result
    (rw c.runnable-runnable.ensures.all at c.at-g.ensures) c.shared_out-place.ensures.place
    (rw c.runnable-runnable.ensures.all at c.count-count.ensures)

pub shared_out-place-requires : goal.shared_out-place-requires
shared_out-place-requires c =
    let some = some_run c.args.state.now c.requires.goes in
    omega (arith, some, counted (goal.at.shared_out-place-requires c).After-count-count)

pub at-g-requires : goal.at-g-requires
at-g-requires c =
    let some = some_run c.args.state.now c.requires.goes in
    omega (arith, some, counted (goal.at.at-g-requires c).After-count-count, c.shared_out-place.ensures.place)

pub take-requires-clause-runs : goal.take-requires-clause-runs
take-requires-clause-runs c = turn-runs c.args.state.now c.args.number _ c.runnable-runnable.ensures.rises
    (turns (goal.at.take-requires-clause-runs c).After-at-g)

pub returns-clause-ok : goal.returns-clause-ok
returns-clause-ok c =
    let at = goal.at.returns-clause-ok c in
    on_ok_weaker c.take.result
    (λ h. step-taken c.args.code.now c.args.state.now c.args.number _ (turns at.After-at-g) c.count-count.result
    c.shared_out-place.result.1 c.take.new.state (counted at.After-count-count) c.shared_out-place.ensures.choice h)
    c.take.ensures.ok

pub returns-clause-turned : goal.returns-clause-turned
returns-clause-turned c =
    let turn = turns (goal.at.returns-clause-turned c).After-at-g in
    IfOk-weaker c.take.result _ _
    (λ turned h. rw (wants-is c.args.code.now c.args.state.now c.args.number _ turn) h) c.take.ensures.turned
