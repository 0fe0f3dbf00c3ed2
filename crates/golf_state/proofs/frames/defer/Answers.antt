use Rattle.std.proofs.lemmas.Result.{err_from_is_err_and}
use Rattle.golf_state.specs.FrameChanges.{has_deferred}
use Rattle.golf_state.proofs.Tops.{top_changed, top_same}
use Rattle.golf_state.proofs.frames.defer.Goals as goal

pub returns-in_err-defer_in-clause-err : goal.returns-in_err-defer_in-clause-err
returns-in_err-defer_in-clause-err c =
    let p = err_from_is_err_and c.from_residual.result c.from_residual.ensures.1 in
    rw p.1 (top_same c.args.frames.now c.top_mut.result.now c.defer_in.new.frame c.top_mut.ensures.value
    c.in_err-defer_in.ensures.err)

pub returns-in_ok-defer_in-clause-ok : goal.returns-in_ok-defer_in-clause-ok
returns-in_ok-defer_in-clause-ok c =
    top_changed c.args.frames.now c.top_mut.result.now c.defer_in.new.frame
    (has_deferred c.args.after c.args.taken c.args.deferred) c.top_mut.ensures.value c.in_ok-defer_in.ensures.ok
