use Rattle.std.proofs.Common.{◌≡◌, drop}
use Rattle.std.specs.Prelude.{flat_map}
use Rattle.golf_check_types.specs.Files.{field_fault}
use Rattle.golf_check_names.proofs.declared.fields_are_typed.Given as goal

abbrev pub invariant-loop-field : goal.invariant-loop-field
invariant-loop-field l = flat_map (field_fault l.line l.scope) (drop l.field-index l.fields) ≡ flat_map
    (field_fault l.line l.scope) l.fields
