use Rattle.std.proofs.Common.{◌≡◌, [], drop, take, map}
use Rattle.golf_check_types.specs.Expressions.{fields_differ}
use Rattle.golf_check_operands.proofs.literals.fields_differ.Given as goal

abbrev pub invariant-loop-i : goal.invariant-loop-i
invariant-loop-i l = fields_differ l.file l.base (map (λ x. x.field) (take l.i l.elements))
    (map (λ x. x.field) (drop l.i l.elements)) ≡ fields_differ l.file l.base [] (map (λ x. x.field) l.elements)
