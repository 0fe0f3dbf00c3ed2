use Rattle.std.proofs.Common.{◌≡◌, ◌++◌, map, drop}
use Rattle.golf_code_of.specs.Values.{zero_value}
use Rattle.golf_code.proofs.values.struct_zeros.Given as goal

abbrev pub invariant-loop-fields : goal.invariant-loop-fields
invariant-loop-fields l = l.values ++ map (map zero_value) (drop l.fields-index l.structs) ≡ map
    (map zero_value) l.structs
