use Rattle.std.proofs.Common.{◌≡◌, ◌++◌, drop}
use Rattle.golf_check_types.specs.Files.{types_alone}
use Rattle.golf_check_names.proofs.types.types_alone.Given as goal

abbrev pub invariant-loop-name : goal.invariant-loop-name
invariant-loop-name l = l.types ++ types_alone (drop l.name-index l.names) ≡ types_alone l.names
