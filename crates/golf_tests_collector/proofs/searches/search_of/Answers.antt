use Rattle.std.proofs.Common.{subst}
use Rattle.golf_explore.specs.Results.{Unless}
use Rattle.golf_tests_collector.proofs.searches.search_of.Goals as goal

pub loop-preserved : goal.loop-preserved
loop-preserved c = (subst (Unless c.args.code _) c.in_default.is c.in_ok-explored.ensures).exploring
