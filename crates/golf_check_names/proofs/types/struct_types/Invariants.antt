use Rattle.std.proofs.Common.{◌≡◌, ◌++◌, drop}
use Rattle.std.specs.Prelude.{flat_map}
use Rattle.golf_check_types.specs.Files.{struct_types}
use Rattle.golf_check_names.proofs.types.struct_types.Given as goal

abbrev pub invariant-loop-decl : goal.invariant-loop-decl
invariant-loop-decl l = l.all ++ flat_map (struct_types l.scope) (drop l.decl-index l.decls) ≡ flat_map
    (struct_types l.scope) l.decls
