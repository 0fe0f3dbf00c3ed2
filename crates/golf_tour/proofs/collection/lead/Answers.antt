use Rattle.std.proofs.Common.{subst, sym}
use Rattle.golf_model.specs.Futures.{Leads}
use Rattle.golf_tour.proofs.collection.lead.Goals as goal

pub loop-number-init : goal.loop-number-init
loop-number-init c = subst (Leads c.args.code.now) (sym c.in_ok-state.ensures) Leads.Start
