use Rattle.std.proofs.Common.{IfSome, subst}
use Rattle.golf_explore.specs.Sane.{IsSane}
use Rattle.golf_explore.proofs.Sanities.{whole-told}
use Rattle.golf_explore.proofs.preemption_search.Frontier.visit.Goals as goal

pub is_found-requires : goal.is_found-requires
is_found-requires c = whole-told c.in-Some.next.state
    (subst (λ o. IfSome o (λ n. ∥ IsSane n.state ∥₁)) c.in-Some.is c.in_ok-next.ensures)

pub returns : goal.returns
returns c = c.keep.ensures c.args.code.now c.args.aim.sought
