use Rattle.std.proofs.Common.{ap, min, ℕ, arith}
use Rattle.golf_grey.proofs.Steps.{takes, finds_few}
use Rattle.golf_grey.proofs.steal.steal_one.Goals as goal

pub steal_as-requires-clause-takes : goal.steal_as-requires-clause-takes
steal_as-requires-clause-takes c = takes _ _ (omega (arith, c.requires.live))

pub steal_as-requires-clause-empty : goal.steal_as-requires-clause-empty
steal_as-requires-clause-empty c = finds_few _ _ _ (ap (λ (n : ℕ). min n 1) c.requires.fifo)
