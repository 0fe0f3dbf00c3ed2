use Rattle.std.proofs.Common.{ℕ, List, ap, slice_get}
use Rattle.golf_model.specs.Views.{GoroutineView}
use Rattle.golf_state.proofs.Comparisons.{numbered-decide}
use Rattle.golf_state_equality.proofs.Cuts.{so-far}
use Rattle.golf_state.proofs.equality.same_numbered.Goals as goal

pub returns-then-not-is_same_entry : goal.returns-then-not-is_same_entry
returns-then-not-is_same_entry c =
    let place = numbered-decide c.loop-at.at
    (record { 0 = 0 }) c.args.state.now.goroutines c.args.other.now.goroutines c.args.numbers.now c.args.others.now
    c.is_same_entry.result
    c.requires.rises c.requires.other_rises c.requires.numbers c.requires.others c.loop-at-test.true
    c.if-numbers-others.false c.is_same_entry.ensures in (
      λ t. cc,
      λ e. cc (
        place.1 (ap (λ (es : List (ℕ × GoroutineView)). slice_get es c.loop-at.at) e),
        c.if-not-is_same_entry.true,
      ),
    )

pub loop-at-preserved : goal.loop-at-preserved
loop-at-preserved c =
    let place = numbered-decide c.loop-at.at
    (record { 0 = 0 }) c.args.state.now.goroutines c.args.other.now.goroutines c.args.numbers.now c.args.others.now
    c.is_same_entry.result
    c.requires.rises c.requires.other_rises c.requires.numbers c.requires.others c.loop-at-test.true
    c.if-numbers-others.false c.is_same_entry.ensures in
    so-far c.args.state.now.goroutines c.args.other.now.goroutines c.loop-at.at
    (place.0 c.if-not-is_same_entry.false) c.loop-at.invariant
