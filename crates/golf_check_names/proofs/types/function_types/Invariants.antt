use Rattle.std.proofs.Common.{◌≡◌, ◌++◌, drop}
use Rattle.std.specs.Prelude.{flat_map}
use Rattle.golf_check_types.specs.Files.{function_types}
use Rattle.golf_check_names.proofs.types.function_types.Given as goal

abbrev pub invariant-loop-decl : goal.invariant-loop-decl
invariant-loop-decl l = l.all ++ flat_map (function_types l.scope) (drop l.decl-index l.decls) ≡ flat_map
    (function_types l.scope) l.decls
