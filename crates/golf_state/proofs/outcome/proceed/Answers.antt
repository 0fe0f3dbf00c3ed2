use Rattle.golf_model.specs.Views.{frame_views}
use Rattle.golf_state.proofs.Doings.{runs-is}
use Rattle.golf_state.proofs.Runnings.{runs-reframed}
use Rattle.golf_state.proofs.outcome.proceed.Goals as goal

pub returns-clause-runs : goal.returns-clause-runs
returns-clause-runs c =
    let g = c.args.acting.goroutine.0 in
    runs-reframed g (frame_views c.advance.new.frames) c.args.state.now
    (runs-is g c.args.acting.after c.args.state.now c.requires)
