use Rattle.std.proofs.lemmas.Result.{on_ok_weaker}
use Rattle.golf_model.specs.Views.{frame_views}
use Rattle.golf_state.proofs.Doings.{runs-is}
use Rattle.golf_state.proofs.Runnings.{runs-reframed}
use Rattle.golf_state.proofs.outcome.proceed_with.Goals as goal

pub returns-clause-runs : goal.returns-clause-runs
returns-clause-runs c =
    let g = c.args.acting.goroutine.0 in
    on_ok_weaker c.advance_with.result (λ h. runs-reframed g (frame_views c.advance_with.new.frames) c.args.state.now
    (runs-is g c.args.acting.after c.args.state.now c.requires)) c.advance_with.ensures.ok
