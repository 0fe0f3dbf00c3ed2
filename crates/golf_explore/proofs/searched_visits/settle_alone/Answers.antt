use Rattle.std.proofs.Common.{sym, subst}
use Rattle.std.proofs.Math.Logic.{∥∥₁_map}
use Rattle.golf_explore.specs.Sane.{IsSane}
use Rattle.golf_explore.proofs.Sanities.{after-sane}
use Rattle.golf_explore.proofs.searched_visits.settle_alone.Goals as goal

pub loop-preserved : goal.loop-preserved
loop-preserved c = subst (λ s. ∥ IsSane s ∥₁) (sym c.in_ok-take.ensures)
    (∥∥₁_map c.loop.invariant (after-sane c.args.code.now c.loop.state c.in-Some.place))
