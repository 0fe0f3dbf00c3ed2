use Rattle.std.proofs.Common.{◌≡◌, ◌+◌, true, false, List, sym, ap, arith}
use Rattle.golf_model.specs.Actors.{Actor}
use Rattle.golf_model.specs.Changes.{Change}
use Rattle.golf_model.specs.Turn.{changes}
use Rattle.golf_model.specs.Views.{FrameView}
use Rattle.golf_machine.proofs.OnFrame.{no-frames, were, frame-fits}
use Rattle.golf_machine.proofs.Moves.{on-top-same}
use Rattle.golf_machine.proofs.Frames.{kept}
use Rattle.golf_machine.proofs.instructions.perform_on_frame.Goals as goal

pub returns-then-count-eq0-clause-ok : goal.returns-then-count-eq0-clause-ok
returns-then-count-eq0-clause-ok c =
    let lent = c.frames_and_globals-frames in
    let e : true ≡ false = no-frames c.requires.stands lent.result.0.now c.len-count.result c.len-count.ensures
    lent.ensures.value c.if-count-eq0.true in
    cc

pub perform_within-requires : goal.perform_within-requires
perform_within-requires c =
    let lent = c.frames_and_globals-frames in
    let e = ap (λ (f : FrameView). f.at + 1)
    (were c.requires.stands lent.result.0.now c.item_mut.result.now c.item_mut.result.now c.len-count.result
    c.len-count.ensures c.item_mut.ensures.value lent.ensures.value).0 in
    let next = c.requires.stands.next in
    omega (arith, e, next)

pub returns-in_err-came-clause-err : goal.returns-in_err-came-clause-err
returns-in_err-came-clause-err c = grind (arith, on-top-same, kept)

pub returns-clause-ok : goal.returns-clause-ok
returns-clause-ok c = λ code choice.
    let s = c.args.state.now in
    let lent = c.frames_and_globals-frames in
    let act : Actor → List Change = λ a. changes code c.args.instr.now a choice s in
    rw c.outcome_in.ensures (frame-fits c.requires.stands lent.result.0.now c.item_mut.result.now
    c.perform_within.new.frame c.len-count.result c.len-count.ensures c.item_mut.ensures.value lent.ensures.value
    lent.ensures.same act c.args.acting.line c.in_ok-came.came _ c.requires.on_frame
    (c.in_ok-came.ensures.ok code choice s (sym lent.ensures.globals)))
