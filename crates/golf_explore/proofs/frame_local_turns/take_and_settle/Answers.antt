use Rattle.std.proofs.Common.{◌≡◌, ℕ, ◌∷◌, ◌++◌, List, [], None, sym, ap, subst, ◌∙◌}
use Rattle.golf_model.specs.State.{State, ending}
use Rattle.golf_model.specs.Futures.{Leads}
use Rattle.golf_explore.specs.FrameLocalTurns.{HasSettled}
use Rattle.golf_explore.proofs.TurnLists.{no-ending}
use Rattle.golf_explore.proofs.Settled.{taken-one, taken-more, leads-after}
use Rattle.golf_explore.proofs.frame_local_turns.take_and_settle.Goals as goal

pub returns-then-is_some : goal.returns-then-is_some
returns-then-is_some c =
    taken-one c.args.code.now c.args.state.now c.args.number c.requires.goes c.requires.leads c.take.new.state
    c.push.new.self c.in_ok-take.ensures
    (c.in_ok-push.ensures.ok ∙ ap (λ (ns : List ℕ). ns ++ c.args.number ∷ []) c.new-numbers.ensures)

pub settle-requires-clause-goes : goal.settle-requires-clause-goes
settle-requires-clause-goes c = sym c.ending.ensures ∙ no-ending _ _ c.is_some.ensures c.if-is_some.false

pub settle-requires-clause-leads : goal.settle-requires-clause-leads
settle-requires-clause-leads c =
    subst (Leads c.args.code.now) (sym c.in_ok-take.ensures)
    (leads-after c.args.code.now c.args.state.now c.args.number c.requires.leads c.requires.goes)

pub returns : goal.returns
returns c =
    let code = c.args.code.now in
    let on : ending c.take.new.state ≡ None =
    sym c.ending.ensures ∙ no-ending _ _ c.is_some.ensures c.if-is_some.false in
    let first = c.in_ok-push.ensures.ok ∙ ap (λ (ns : List ℕ). ns ++ c.args.number ∷ []) c.new-numbers.ensures in
    taken-more code c.args.state.now c.args.number c.requires.goes c.requires.leads c.settle.new.state
    c.settle.new.numbers (ap ending (sym c.in_ok-take.ensures) ∙ on)
    (subst (λ (s : State). HasSettled code s c.settle.new.state (c.args.number ∷ []) c.settle.new.numbers)
    c.in_ok-take.ensures
    (subst (λ (ns : List ℕ). HasSettled code c.take.new.state c.settle.new.state ns c.settle.new.numbers) first
    c.in_ok-settle.ensures))
