use Rattle.std.proofs.Common.{◌≡◌, drop}
use Rattle.golf_check_types.specs.Calls.{argument_faults}
use Rattle.golf_check_operands.proofs.calls.arguments_fit.Given as goal

-- the values left are those of the parameters left
abbrev pub invariant-loop-p : goal.invariant-loop-p
invariant-loop-p l = argument_faults l.line (drop l.p-index l.parameters) l.rest
    ≡ argument_faults l.line l.parameters l.values
