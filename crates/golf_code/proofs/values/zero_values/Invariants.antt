use Rattle.std.proofs.Common.{◌≡◌, ◌++◌, map, drop}
use Rattle.golf_code_of.specs.Values.{zero_value}
use Rattle.golf_code.proofs.values.zero_values.Given as goal

abbrev pub invariant-loop-t : goal.invariant-loop-t
invariant-loop-t l = l.values ++ map zero_value (drop l.t-index l.types) ≡ map zero_value l.types
