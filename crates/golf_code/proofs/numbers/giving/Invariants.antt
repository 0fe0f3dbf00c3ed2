use Rattle.std.proofs.Common.{◌≡◌, ◌∷◌, ◌++◌, false, map, drop}
use Rattle.std.specs.Prelude.{is_some}
use Rattle.golf_check_types.specs.declared.operands.Signature.{Signature}
use Rattle.golf_code.proofs.numbers.giving.Given as goal

abbrev pub invariant-loop-function : goal.invariant-loop-function
invariant-loop-function l =
    l.gives ++ map (λ (x : Signature). is_some x.result) (drop l.function-index l.functions) ≡ false
    ∷ map (λ (x : Signature). is_some x.result) l.functions
