use Rattle.std.proofs.Common.{◌≡◌, ◌++◌, drop}
use Rattle.std.specs.Prelude.{flat_map}
use Rattle.golf_check_types.specs.Files.{global_types}
use Rattle.golf_check_names.proofs.types.global_types.Given as goal

abbrev pub invariant-loop-decl : goal.invariant-loop-decl
invariant-loop-decl l = l.all ++ flat_map (global_types l.scope) (drop l.decl-index l.decls) ≡ flat_map
    (global_types l.scope) l.decls
