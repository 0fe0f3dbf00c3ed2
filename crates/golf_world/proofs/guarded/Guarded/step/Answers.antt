use Rattle.std.proofs.Common.{◌∷◌, [], sym, ap, ◌∙◌, subst}
use mathlib.Core.List.{IsPrefix}
use Rattle.golf_world.specs.History.{entry, next_number}
use Rattle.golf_world.specs.Seats.{seen_of}
use Rattle.golf_world.proofs.Lists.{prefix_push}
use Rattle.golf_world.proofs.guarded.Guarded.step.Goals as goal

pub returns-in-Ok-Turned-clause-later : goal.returns-in-Ok-Turned-clause-later
returns-in-Ok-Turned-clause-later g c =
    let own = c.in-Some.own in
    let before = c.self.inside.keeper.me.0.seen in
    let seen = ap seen_of (sym c.in-Some.is ∙ c.take.ensures.value) ∙ ap (λ p. p.seen) c.pass.view_is in
    let number = next_number g.W.WorldName.code c.pass.inside.number before in
    subst (λ l. IsPrefix l c.append.result.me.0.seen) seen
    (subst (IsPrefix own.me.0.seen) (sym (ap (λ m. m.0.seen) c.append.ensures.own))
    (prefix_push own.me.0.seen before (entry c.pass.inside.number number ∷ []) c.append.ensures.later))
