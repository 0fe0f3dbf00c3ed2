use Rattle.std.proofs.Common.{Some, refl}
use Rattle.golf_machine.proofs.Sequence.{failed, one-more, last-given, stops-is, still-goes, asked-turn}
use Rattle.golf_machine.proofs.Sequence.{asked-end}
use Rattle.golf_machine.proofs.batches.take_turns.Goals as goal

pub returns-in_err-number-clause-err : goal.returns-in_err-number-clause-err
returns-in_err-number-clause-err g c =
    let e = c.in_err-number.ensures.err in
    let a = asked-turn (Some e.0) refl c.loop-number.invariant.gone e.1 in
    failed c.from_residual.result c.from_residual.ensures.0 (last-given a.1 a.2, refl)

pub returns-in_err-turned-clause-err : goal.returns-in_err-turned-clause-err
returns-in_err-turned-clause-err g c =
    let a = asked-turn c.in_ok-number.field-0 c.in-Some.is c.loop-number.invariant.gone c.in_ok-number.ensures.ok in
    failed c.from_residual-in_err-turned.result c.from_residual-in_err-turned.ensures.0
    (last-given a.1 a.2, c.in_err-turned.ensures.err)

pub returns-then-needs_outside-clause-ok : goal.returns-then-needs_outside-clause-ok
returns-then-needs_outside-clause-ok g c =
    let a = asked-turn c.in_ok-number.field-0 c.in-Some.is c.loop-number.invariant.gone c.in_ok-number.ensures.ok in
    let next = c.in_ok-turned.ensures.ok in
    let turned = c.in_ok-turned.ensures.turned in
    let stops = stops-is c.args.code.now c.go_on_inside.new.state c.in-Some.number next turned c.output.ensures
    c.needs_outside.ensures in
    (last-given a.1 a.2, next, rw (← next) turned, rw stops c.if-needs_outside.true)

pub loop-number-preserved : goal.loop-number-preserved
loop-number-preserved g c =
    let a = asked-turn c.in_ok-number.field-0 c.in-Some.is c.loop-number.invariant.gone c.in_ok-number.ensures.ok in
    let next = c.in_ok-turned.ensures.ok in
    let turned = c.in_ok-turned.ensures.turned in
    let stops = stops-is c.args.code.now c.go_on_inside.new.state c.in-Some.number next turned c.output.ensures
    c.needs_outside.ensures in
    record {
      gone = one-more a.1 a.2 next (rw stops c.if-needs_outside.false);
      goes = still-goes c.in_ok-turned.turned c.turn.new.state _ _ c.output.result.now turned c.needs_outside.ensures
          c.if-needs_outside.false;
    }

pub returns-clause-ok : goal.returns-clause-ok
returns-clause-ok g c = asked-end c.in_ok-number.field-0 c.in_default.is c.loop-number.invariant.gone
    c.in_ok-number.ensures.ok
