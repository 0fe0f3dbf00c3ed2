use Rattle.std.proofs.Common.{arith}
use Rattle.golf_check_operands.proofs.Digits.{value_from-at}
use Rattle.golf_check_operands.proofs.literals.small_value.Goals as goal

pub returns-then-value-digit : goal.returns-then-value-digit
returns-then-value-digit c = λ le. omega (
  arith,
  value_from-at c.loop-d.value c.args.digits.now c.loop-d.d-index c.loop-d-test.true,
  c.loop-d.invariant.value,
)
