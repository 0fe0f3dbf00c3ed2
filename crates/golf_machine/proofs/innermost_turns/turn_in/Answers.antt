use Rattle.std.proofs.Common.{◌≡◌, ◌+◌, ◌∙◌, refl, sym, ap, arith}
use Rattle.golf_model.specs.Turn.{changes}
use Rattle.golf_model.specs.Views.{FrameView, frame_view}
use Rattle.golf_machine.specs.Within.{is_on_frame, Becomes}
use Rattle.golf_machine.proofs.Moves.{passed, line-there, left-alone, blank}
use Rattle.golf_machine.proofs.TurnLaws.{place-fits}
use Rattle.golf_machine.proofs.innermost_turns.turn_in.Goals.{In-ZeroDivisor, In-Done}
use Rattle.golf_machine.proofs.innermost_turns.turn_in.Goals as goal

same : (c : In-ZeroDivisor) → frame_view c.perform_within.new.frame ≡ frame_view c.args.frame.now
same c =
    let i = c.in-Some.line.now.instr in
    let g = blank c.args.globals.now in
    left-alone (is_on_frame i) c.in_ok-perform_within.field-0 (λ a. changes c.args.code.now i a 0 g) _ _
    (c.in_ok-perform_within.ensures.ok c.args.code.now 0 g refl) c.in-ZeroDivisor.is

pub overflow_add-result : goal.overflow_add-result
overflow_add-result c =
    let code = c.args.code.now in
    let l = c.in-Some.line.now in
    let f : FrameView = frame_view c.args.frame.now in
    let at = ap (λ (x : FrameView). x.at) (same (goal.at.overflow_add-result c).In-ZeroDivisor) in
    let fits = place-fits code f.function f.at l c.requires.places
    (sym (line-there code c.args.function.now l f c.requires.function c.in-Some.ensures.line)) in
    omega (arith, at, fits)

pub returns-in-ZeroDivisor : goal.returns-in-ZeroDivisor
returns-in-ZeroDivisor c =
    let f : FrameView = frame_view c.args.frame.now in
    let as-before = same (goal.at.returns-in-ZeroDivisor c).In-ZeroDivisor in
    let there = line-there c.args.code.now c.args.function.now c.in-Some.line.now f c.requires.function
    c.in-Some.ensures.line in
    record {
      ok = (as-before, (c.requires.stays, there, ap (λ (x : FrameView). x.at + 1) as-before));
      function = ap (λ (x : FrameView). x.function) as-before;
      stays = ap (λ (x : FrameView). x.leaving) as-before ∙ c.requires.stays;
      err = tt;
    }

pub returns-clause-ok : goal.returns-clause-ok
returns-clause-ok c =
    passed c.args.code.now c.args.function.now c.in-Some.line.now (frame_view c.args.frame.now)
    c.requires.function c.in-Some.ensures.line (frame_view c.perform_within.new.frame)
    c.args.globals.now (frame_view c.clear_in.new.frame) c.requires.stays
    (c.in_ok-perform_within.ensures.plain c.in-Done.is)
    (λ choice s lent. rw c.in-Done.is at (c.in_ok-perform_within.ensures.ok c.args.code.now choice s lent))
    c.clear_in.ensures

becomes : (c : In-Done) → Becomes (λ a. changes c.args.code.now c.in-Some.line.now.instr a 0 (blank c.args.globals.now))
    (frame_view c.args.frame.now) (frame_view c.perform_within.new.frame)
becomes c = rw c.in-Done.is at (c.in_ok-perform_within.ensures.ok c.args.code.now 0 (blank c.args.globals.now) refl)

pub returns-clause-function : goal.returns-clause-function
returns-clause-function c = ap (λ (x : FrameView). x.function) c.clear_in.ensures
    ∙ (becomes (goal.at.returns-clause-function c).In-Done).function

pub returns-clause-stays : goal.returns-clause-stays
returns-clause-stays c = ap (λ (x : FrameView). x.leaving) c.clear_in.ensures
    ∙ (becomes (goal.at.returns-clause-stays c).In-Done).leaving ∙ c.requires.stays
