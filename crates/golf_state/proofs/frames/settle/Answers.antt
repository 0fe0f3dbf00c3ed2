use Rattle.std.proofs.Common.{List, [], ap}
use Rattle.std.proofs.lemmas.Result.{err_from_is_err_and}
use Rattle.golf_model.specs.Views.{FrameView, GoroutineView}
use Rattle.golf_state.specs.FrameChanges.{went}
use Rattle.golf_state.proofs.Tops.{top_changed, top_same}
use Rattle.golf_state.proofs.Readiness.{room-set}
use Rattle.golf_state.proofs.frames.settle.Goals as goal

pub returns-in_err-settle_frame-clause-err : goal.returns-in_err-settle_frame-clause-err
returns-in_err-settle_frame-clause-err c =
    let r = c.args.goroutine.now in
    let p = err_from_is_err_and c.from_residual.result c.from_residual.ensures.1 in
    rw p.1
    (ap (λ (fs : List FrameView). let q : GoroutineView =
    record { frames = fs; mode = r.mode; started = r.started } in q)
    (top_same r.frames c.top_mut.result.now c.settle_frame.new.frame c.top_mut.ensures.value
    c.in_err-settle_frame.ensures.err))

pub returns-in_ok-settle_frame-clause-ok : goal.returns-in_ok-settle_frame-clause-ok
returns-in_ok-settle_frame-clause-ok c =
    let r = c.args.goroutine.now in
    ap (λ (fs : List FrameView). let q : GoroutineView =
    record { frames = fs; mode = r.mode; started = r.started } in q)
    (top_changed r.frames c.top_mut.result.now c.settle_frame.new.frame
    (went c.args.after c.args.taken []) c.top_mut.ensures.value c.in_ok-settle_frame.ensures.ok)

pub returns-in_ok-settle_frame-clause-room : goal.returns-in_ok-settle_frame-clause-room
returns-in_ok-settle_frame-clause-room c =
    room-set c.args.goroutine.now.frames c.top_mut.result.now c.settle_frame.new.frame c.top_mut.ensures.value
    c.in_ok-settle_frame.ensures.room

pub returns-in_ok-settle_frame-clause-kept : goal.returns-in_ok-settle_frame-clause-kept
returns-in_ok-settle_frame-clause-kept c =
    λ h. room-set c.args.goroutine.now.frames c.top_mut.result.now c.settle_frame.new.frame c.top_mut.ensures.value
    c.in_ok-settle_frame.ensures.room
