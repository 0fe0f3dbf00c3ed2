use Rattle.std.proofs.Common.{◌≡◌, drop, map}
use Rattle.golf_check_types.specs.Expressions.{all_put_faults}
use Rattle.golf_check_operands.proofs.literals.all_fit.Given as goal

-- the values left are those of the elements left
abbrev pub invariant-loop-e : goal.invariant-loop-e
invariant-loop-e l = all_put_faults l.line l.file l.base (map (λ x. x.field) (drop l.e-index l.elements)) l.rest
    ≡ all_put_faults l.line l.file l.base (map (λ x. x.field) l.elements) l.values
