use Rattle.std.proofs.Common.{subst, sym}
use Rattle.golf_model.specs.Futures.{Leads}
use Rattle.golf_tests_collector.proofs.collections.programs.state_of.Goals as goal

pub go_on-requires : goal.go_on-requires
go_on-requires c = subst (Leads c.args.code.now) (sym c.in_ok-state.ensures) Leads.Start
