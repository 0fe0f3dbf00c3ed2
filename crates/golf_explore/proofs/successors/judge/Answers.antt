use Rattle.std.proofs.Common.{◌≡◌, None, [], ◌++◌, sym, ap, ◌∙◌}
use Rattle.golf_model.specs.State.{ending, not_empty, State}
use Rattle.golf_explore.proofs.TurnLists.{no-ending, no-finaliser}
use Rattle.golf_explore.proofs.Seekings.{trail-shows}
use Rattle.golf_explore.proofs.successors.judge.Goals as goal

pub returns-then-has_finaliser : goal.returns-then-has_finaliser
returns-then-has_finaliser c = (
  c.args.path.now ++ c.args.numbers.now,
  c.requires.trail.goes_on,
  ap (λ (s : State). not_empty s.finalisers) (sym c.requires.trail.led) ∙ sym c.has_finaliser.ensures
      ∙ c.if-has_finaliser.true,
)

pub shortened-requires-clause-shows : goal.shortened-requires-clause-shows
shortened-requires-clause-shows c =
    let s = c.args.state.now in
    let on : ending s ≡ None = sym c.ending.ensures ∙ no-ending _ _ c.is_some.ensures c.if-is_some.false in
    let none : s.finalisers ≡ [] = no-finaliser s.finalisers _ c.has_finaliser.ensures c.if-has_finaliser.false in
    trail-shows c.args.code.now (c.args.path.now ++ c.args.numbers.now) _ s c.requires.trail on none
    (c.in_ok-has_dead.ensures.dies c.if-branch.true) c.in_ok-turns.ensures

pub returns-then-branch : goal.returns-then-branch
returns-then-branch c = c.in_ok-fewer.ensures.1
