use Rattle.golf_grey.proofs.Steps.{begins}
use Rattle.golf_grey.proofs.named.make_owner.Goals as goal

pub fifo_as-requires : goal.fifo_as-requires
fifo_as-requires c = begins
