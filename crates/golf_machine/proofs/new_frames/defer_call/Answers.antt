use Rattle.std.proofs.Common.{rules}
use Rattle.golf_model.specs.Views.{frame_views}
use Rattle.golf_machine.proofs.Frames.{defers-some}
use Rattle.golf_machine.proofs.Takings.{taken-none}
use Rattle.golf_machine.proofs.new_frames.defer_call.Goals as goal

pub returns-in_default-clause-ok : goal.returns-in_default-clause-ok
returns-in_default-clause-ok c = let e = rw c.in_default.is at c.last_values.ensures in
    search (rules, c.requires, taken-none, e)

pub returns-clause-ok : goal.returns-clause-ok
returns-clause-ok c = defers-some c.requires c.args.acting.line c.args.number c.args.count c.in-Some.values.now
    (frame_views c.defer.new.frames) c.in-Some.ensures
    (rw (c.in_ok-extend_from_slice.ensures.ok, c.new-arguments.ensures, c.frames_mut.ensures.value)
    at c.in_ok-defer.ensures.ok)
