use Rattle.std.proofs.Common.{◌≡◌, ◌≤◌, drop}
use Rattle.golf_check_types.specs.Expressions.{value_from}
use Rattle.golf_check_operands.specs.declared.literals.TheConstants.{MAX_INT}
use Rattle.golf_check_operands.proofs.literals.small_value.Given as goal

-- the value so far and the digits left make the value
abbrev pub invariant-loop-d : goal.invariant-loop-d
invariant-loop-d l = record {
  value : value_from 0 l.digits ≡ value_from l.value (drop l.d-index l.digits);
  small : l.value ≤ MAX_INT;
}
