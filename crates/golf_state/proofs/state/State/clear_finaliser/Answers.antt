use Rattle.std.proofs.Common.{◌==◌, not, sym, subst}
use Rattle.golf_theory.specs.Maps.{Rises}
use Rattle.golf_theory.proofs.MapOrder.{Rises-only}
use Rattle.golf_state.proofs.state.State.clear_finaliser.Goals as goal

pub invariant_of-self : goal.invariant_of-self
invariant_of-self c = record {
  kept = c.self.invariant.kept;
  enqueued = c.self.invariant.enqueued;
  finalisers = subst (Rises 0) (sym c.take.ensures)
      (Rises-only 0 (λ p. not (p == c.args.object.0)) c.self.inside.finalisers c.self.invariant.finalisers);
}
