use Rattle.std.proofs.Common.{List, None, subst, sym}
use Rattle.golf_theory.specs.Membership.{Every}
use Rattle.golf_explore.specs.declared.visits.Visit.{Visit}
use Rattle.golf_explore.specs.Sane.{IsSane}
use Rattle.golf_explore.specs.VisitLists.{states}
use Rattle.golf_explore.proofs.Sanities.{pushed-told, start-sane}
use Rattle.golf_explore.proofs.searched_visits.SaneVisits.new.Goals as goal

pub invariant_of-result : goal.invariant_of-result
invariant_of-result c =
    let none = subst (λ (vs : List Visit). ∥ Every IsSane (states vs) ∥₁) (sym c.in_ok-visits.ensures) ∣ tt ∣₁ in
    record {
      sane = pushed-told c.in_ok-visits.visits.list c.push.new.self.list c.in_ok-state.state None
          c.in_ok-push.ensures.ok none ∣ subst IsSane (sym c.in_ok-state.ensures) (start-sane c.args.code.now) ∣₁;
    }
