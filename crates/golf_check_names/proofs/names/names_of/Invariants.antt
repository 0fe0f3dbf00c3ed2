use Rattle.std.proofs.Common.{◌≡◌, ◌++◌, drop}
use Rattle.std.specs.Prelude.{flat_map}
use Rattle.golf_check_types.specs.Files.{field_names}
use Rattle.golf_check_names.proofs.names.names_of.Given as goal

abbrev pub invariant-loop-field : goal.invariant-loop-field
invariant-loop-field l = l.names ++ flat_map field_names (drop l.field-index l.fields) ≡ flat_map field_names l.fields
