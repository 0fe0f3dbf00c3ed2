use Rattle.std.proofs.Common.{sym, ap, subst, ◌∙◌}
use Rattle.std.specs.Io.KnownBytes.{Appends}
use Rattle.golf_model.specs.State.{State}
use Rattle.golf_model.specs.Turn.{step}
use Rattle.golf_run_texts.specs.Writes.{emptied}
use Rattle.golf_run.proofs.Turning.{quiet-turn, other-turn}
use Rattle.golf_run.proofs.traced_run.take.Goals as goal

pub returns : goal.returns
returns g c =
    let code = c.args.code.now in
    let s : State = c.args.state.now in
    let is = c.in_ok-turned.ensures.ok in (
      c.in_ok-line.ensures code s c.args.number c.in_ok-before.ensures is,
      (
        sym (quiet-turn c.in_ok-turned.turned code s c.turn.new.state c.args.number
            (other-turn c.in_ok-turned.turned c.in-Went.is) is c.requires.goes c.in_ok-turned.ensures.turned),
        c.clear_output.ensures ∙ ap emptied is,
        subst (Appends (g.O.Sink.written c.args.out.now) (g.O.Sink.written c.write_all.new.sink))
            (c.output.ensures ∙ ap (λ (x : State). x.output) is) c.in_ok-write_all.ensures.ok,
        c.in_ok-write_all.ensures.cause.steady,
      ),
    )
