use Rattle.std.proofs.Common.{◌≡◌, ℕ, ◌<◌, List, length, get_or, None, sym, subst, ap, ◌∙◌}
use Rattle.std.proofs.lemmas.Option.{slice_get-get_or}
use Rattle.golf_model.specs.State.{State, ending, start as start_of}
use Rattle.golf_model.specs.Futures.{Leads}
use Rattle.golf_explore_laws.specs.After.{after}
use Rattle.golf_explore.proofs.TurnLists.{next-after, no-ending, no-finaliser}
use Rattle.golf_explore.proofs.Seekings.{goes-more}
use Rattle.golf_explore.proofs.attempts.attempt.Goals as goal

pub loop-number-init : goal.loop-number-init
loop-number-init c = record {
  led = c.in_ok-state.ensures;
  goes = tt;
  leads = subst (Leads c.args.code.now) (sym c.in_ok-state.ensures) Leads.Start;
}

pub loop-number-preserved : goal.loop-number-preserved
loop-number-preserved c =
    let code = c.args.code.now in
    let ns : List ℕ = c.args.numbers.now in
    let i = c.loop-number.number-index in
    let s : State = c.loop-number.state in
    let within : i < length ns = c.loop-number-test.true in
    let x = get_or ns i 0 in
    let got = slice_get-get_or ns i 0 within in
    let led = c.loop-number.invariant.led in
    let goes : ending s ≡ None = sym c.ending.ensures ∙ no-ending _ _ c.is_some.ensures c.if-is_some.false in
    let reached = c.in_ok-take.ensures ∙ ap (λ (u : State). after code u x) led in
    let none = no-finaliser _ _ c.has_finaliser.ensures c.if-has_finaliser.false in
    record {
      led = next-after code ns (start_of code) s c.take.new.state i x got led c.in_ok-take.ensures;
      goes = goes-more code ns i x got c.loop-number.invariant.goes (ap ending (sym led) ∙ goes)
          (λ ends. ap (λ (u : State). u.finalisers) (sym reached) ∙ none);
      leads = subst (Leads code) (sym c.in_ok-take.ensures)
          (Leads.Emptied _ (Leads.Turn s x c.loop-number.invariant.leads goes));
    }
