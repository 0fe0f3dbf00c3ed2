use Rattle.std.proofs.Common.{refl}
use Rattle.golf_command.specs.GeneratedRuns.{generated_options}
use Rattle.golf_command.proofs.generated.generated_options.Goals as goal

pub returns-clause-options : goal.returns-clause-options
unfolding generated_options
returns-clause-options c = refl
