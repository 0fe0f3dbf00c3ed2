use Rattle.std.proofs.Common.{◌≡◌, drop}
use Rattle.std.specs.Prelude.{flat_map}
use Rattle.golf_check_types.specs.Files.{type_faults}
use Rattle.golf_check_names.proofs.declared.types_are_there.Given as goal

abbrev pub invariant-loop-decl : goal.invariant-loop-decl
invariant-loop-decl l = flat_map (type_faults l.scope) (drop l.decl-index l.decls) ≡ flat_map
    (type_faults l.scope) l.decls
