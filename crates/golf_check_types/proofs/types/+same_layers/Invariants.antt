use Rattle.std.proofs.Common.{length}
use Rattle.golf_check_types.proofs.types.+same_layers.Given as goal

abbrev pub decreases-same_layers : goal.decreases-same_layers
decreases-same_layers l = length l.a.now
