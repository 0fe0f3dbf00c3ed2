use Rattle.std.proofs.Common.{◌∙◌, ap, subst, sym}
use Rattle.std.specs.Prelude.{is_some}
use Rattle.std.proofs.option.Match.{None-if_not_some}
use Rattle.golf_model.specs.Futures.{Leads}
use Rattle.golf_tests_support.proofs.turns.take_turn.Goals as goal

pub returns : goal.returns
returns c =
    let goes = None-if_not_some _ (sym (c.is_some.ensures ∙ ap is_some c.ending.ensures) ∙ c.if-is_some.false) in
    λ leads. subst (Leads c.args.code.now) (sym c.in_ok-turned.ensures.ok)
    (Leads.Turn c.args.state.now c.args.number leads goes)
