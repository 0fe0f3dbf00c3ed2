use Rattle.std.proofs.Common.{Some}
use Rattle.golf_model.specs.Views.{frame_views}
use Rattle.golf_machine.proofs.Sequence.{failed}
use Rattle.golf_machine.proofs.Lone.{lone-is-running, lone-asked}
use Rattle.golf_machine.proofs.inner_batches.go_on_inside.Goals as goal

pub frames_and_globals-frames-requires : goal.frames_and_globals-frames-requires
frames_and_globals-frames-requires g c = lone-is-running c.in-Some.ensures.rises c.in-Some.ensures.lone

pub returns-in_err-next-clause-err : goal.returns-in_err-next-clause-err
returns-in_err-next-clause-err g c =
    let lent = c.frames_and_globals-frames.ensures in
    let e = c.in_err-next.ensures.err in
    failed c.from_residual.result c.from_residual.ensures.0 (
      e.0,
      (lone-asked c.args.code.now c.in-Some.ensures.rises
          c.in-Some.ensures.lone c.requires.goes (frame_views c.keep_on.new.frames) lent.value lent.same lent.globals
          (Some e.0) _ _ _ _ e.1).0,
    )

pub returns-in_err-next-clause-goes : goal.returns-in_err-next-clause-goes
returns-in_err-next-clause-goes g c =
    let lent = c.frames_and_globals-frames.ensures in
    let e = c.in_err-next.ensures.err in
    (lone-asked c.args.code.now c.in-Some.ensures.rises c.in-Some.ensures.lone c.requires.goes
    (frame_views c.keep_on.new.frames) lent.value lent.same lent.globals (Some e.0) _ _ _ _ e.1).1

pub returns-clause-ok : goal.returns-clause-ok
returns-clause-ok g c = let lent = c.frames_and_globals-frames.ensures in
    (lone-asked c.args.code.now c.in-Some.ensures.rises c.in-Some.ensures.lone c.requires.goes
    (frame_views c.keep_on.new.frames) lent.value lent.same lent.globals c.in_ok-next.next _ _ _ _
    c.in_ok-next.ensures.ok).0

pub returns-clause-goes : goal.returns-clause-goes
returns-clause-goes g c = let lent = c.frames_and_globals-frames.ensures in
    (lone-asked c.args.code.now c.in-Some.ensures.rises c.in-Some.ensures.lone c.requires.goes
    (frame_views c.keep_on.new.frames) lent.value lent.same lent.globals c.in_ok-next.next _ _ _ _
    c.in_ok-next.ensures.ok).1
