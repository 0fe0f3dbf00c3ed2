use Rattle.std.proofs.Common.{◌≡◌, ◌++◌, drop}
use Rattle.golf_check_types.specs.Files.{field_names}
use Rattle.golf_check_names.proofs.names.add_names.Given as goal

abbrev pub invariant-loop-name : goal.invariant-loop-name
invariant-loop-name l = l.names ++ drop l.name-index l.field.more ≡ l.fn.names ++ field_names l.field
