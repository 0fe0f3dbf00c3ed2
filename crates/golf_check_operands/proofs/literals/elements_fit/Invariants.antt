use Rattle.std.proofs.Common.{◌≡◌, drop}
use Rattle.std.specs.Prelude.{flat_map}
use Rattle.golf_check_types.specs.declared.rules.TheConstants.{NOT_ASSIGNABLE}
use Rattle.golf_check_types.specs.Faults.{broken}
use Rattle.golf_check_types.specs.Types.{assignable}
use Rattle.golf_check_operands.proofs.literals.elements_fit.Given as goal

abbrev pub invariant-loop-v : goal.invariant-loop-v
invariant-loop-v l = flat_map (λ x. broken l.line NOT_ASSIGNABLE (assignable x l.t)) (drop l.v-index l.values)
    ≡ flat_map (λ x. broken l.line NOT_ASSIGNABLE (assignable x l.t)) l.values
