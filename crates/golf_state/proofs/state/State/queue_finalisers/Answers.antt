use Rattle.std.proofs.Common.{sym, subst}
use Rattle.golf_theory.specs.Maps.{Rises}
use Rattle.golf_theory.proofs.Ranks.{Rises-kept}
use Rattle.golf_state.proofs.state.State.queue_finalisers.Goals as goal

pub invariant_of-self-2 : goal.invariant_of-self-2
invariant_of-self-2 c = record {
  kept = c.self.invariant.kept;
  enqueued = c.self.invariant.enqueued;
  finalisers = subst (Rises 0) (sym c.retain.ensures)
      (Rises-kept 0 c.args.stays.now c.self.inside.finalisers c.self.invariant.finalisers);
}
