use Rattle.std.proofs.Common.{◌≡◌, drop, map}
use Rattle.std.specs.List.{list_any}
use Rattle.std.specs.Str.{bytes_eq}
use Rattle.golf_check_operands.proofs.literals.is_among.Given as goal

-- it is none of the names so far
abbrev pub invariant-loop-e : goal.invariant-loop-e
invariant-loop-e l = list_any (bytes_eq l.name) (map (λ x. x.field) (drop l.e-index l.elements)) ≡ list_any
    (bytes_eq l.name) (map (λ x. x.field) l.elements)
