use Rattle.std.proofs.Common.{◌≡◌, ◌++◌, drop}
use Rattle.golf_check_types.specs.Files.{all_typed_names}
use Rattle.golf_check_names.proofs.types.typed_names.Given as goal

abbrev pub invariant-loop-field : goal.invariant-loop-field
invariant-loop-field l = l.names ++ all_typed_names l.scope (drop l.field-index l.fields)
    ≡ all_typed_names l.scope l.fields
