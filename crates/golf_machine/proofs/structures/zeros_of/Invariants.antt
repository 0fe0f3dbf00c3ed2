use Rattle.std.proofs.Common.{◌≡◌, take}
use Rattle.golf_model.specs.Values.{zeros_of}
use Rattle.golf_machine.proofs.structures.zeros_of.Given as goal

-- the zeros so far
abbrev pub invariant-loop-value : goal.invariant-loop-value
invariant-loop-value l = l.zeros ≡ zeros_of (take l.value-index l.values)
