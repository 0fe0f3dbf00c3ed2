use Rattle.std.proofs.Common.{arith}
use Rattle.golf_model.specs.Views.{frame_view, frame_views}
use Rattle.golf_machine.proofs.Frames.{deferred-misses, deferred-fits, deferred-full, deferred-enter}
use Rattle.golf_machine.proofs.new_frames.begin_deferred.Goals as goal

pub returns-in_default-2-clause-fits : goal.returns-in_default-2-clause-fits
returns-in_default-2-clause-fits c =
    deferred-misses c.requires.1 c.args.line c.args.code.now c.in-Some.deferred.now c.in-Some.ensures
    (rw (c.in_default-2.is, c.as_slice-arguments.ensures) at c.in_ok-frame.ensures)

pub returns-then-depth-ge-MOST_FRAMES-clause-ok : goal.returns-then-depth-ge-MOST_FRAMES-clause-ok
returns-then-depth-ge-MOST_FRAMES-clause-ok c =
    deferred-full c.requires.1 c.args.line c.args.code.now c.in-Some.deferred.now c.in-Some.ensures
    (frame_view c.in-Some-2.frame) c.finish.new.self
    (rw (c.in-Some-2.is, c.as_slice-arguments.ensures) at c.in_ok-frame.ensures) (omega arith) c.finish.ensures

pub returns-then-depth-ge-MOST_FRAMES-clause-fits : goal.returns-then-depth-ge-MOST_FRAMES-clause-fits
returns-then-depth-ge-MOST_FRAMES-clause-fits c =
    deferred-fits c.requires.1 c.args.line c.args.code.now c.in-Some.deferred.now c.in-Some.ensures
    (frame_view c.in-Some-2.frame) (rw (c.in-Some-2.is, c.as_slice-arguments.ensures) at c.in_ok-frame.ensures)

pub returns-clause-ok : goal.returns-clause-ok
returns-clause-ok c =
    deferred-enter c.requires.1 c.args.line c.args.code.now c.in-Some.deferred.now c.in-Some.ensures
    (frame_view c.in-Some-2.frame) (frame_views c.enter_deferred.new.frames)
    (rw (c.in-Some-2.is, c.as_slice-arguments.ensures) at c.in_ok-frame.ensures) (omega arith)
    (rw c.frames_mut.ensures.value at c.in_ok-enter_deferred.ensures.ok)

pub returns-clause-fits : goal.returns-clause-fits
returns-clause-fits c =
    deferred-fits c.requires.1 c.args.line c.args.code.now c.in-Some.deferred.now c.in-Some.ensures
    (frame_view c.in-Some-2.frame) (rw (c.in-Some-2.is, c.as_slice-arguments.ensures) at c.in_ok-frame.ensures)
