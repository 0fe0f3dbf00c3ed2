use Rattle.std.proofs.Common.{ℕ, List, length, ap, arith}
use Rattle.golf_tests_machine.proofs.finalisers.finalised.Goals as goal

pub queue_finalisers-requires : goal.queue_finalisers-requires
queue_finalisers-requires c = omega (
  arith,
  c.if-len-eq1.true,
  c.len.ensures,
  ap (λ (l : List (ℕ × ℕ)). length l) c.in_ok-set.ensures,
)
