use Rattle.std.proofs.Common.{arith, rules}
use Rattle.golf_model.specs.Views.{frame_view, frame_views}
use Rattle.golf_machine.proofs.Frames.{calls-missing, calls-full, calls-enter}
use Rattle.golf_machine.proofs.Takings.{taken-none}
use Rattle.golf_machine.proofs.new_frames.call.Goals as goal

pub returns-in_default-clause-ok : goal.returns-in_default-clause-ok
returns-in_default-clause-ok c = let e = rw c.in_default.is at c.last_values.ensures in
    search (rules, c.requires, taken-none, e)

pub returns-in_default-2-clause-ok : goal.returns-in_default-2-clause-ok
returns-in_default-2-clause-ok c = calls-missing c.requires c.args.acting.line c.args.code.now c.args.number
    c.args.count c.in-Some.arguments.now c.in-Some.ensures (rw c.in_default-2.is at c.in_ok-frame.ensures)

pub returns-then-depth-ge-MOST_FRAMES-clause-ok : goal.returns-then-depth-ge-MOST_FRAMES-clause-ok
returns-then-depth-ge-MOST_FRAMES-clause-ok c =
    calls-full c.requires c.args.acting.line c.args.code.now c.args.number c.args.count c.in-Some.arguments.now
    c.in-Some.ensures (frame_view c.in-Some-2.frame) (rw c.in-Some-2.is at c.in_ok-frame.ensures) (omega arith)

pub returns-clause-ok : goal.returns-clause-ok
returns-clause-ok c = calls-enter c.requires c.args.acting.line c.args.code.now c.args.number c.args.count
    c.in-Some.arguments.now c.in-Some.ensures (frame_view c.in-Some-2.frame) (frame_views c.enter.new.frames)
    (rw c.in-Some-2.is at c.in_ok-frame.ensures) (omega arith)
    (rw c.frames_mut.ensures.value at c.in_ok-enter.ensures.ok)
