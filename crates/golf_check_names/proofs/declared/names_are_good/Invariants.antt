use Rattle.std.proofs.Common.{◌≡◌, drop}
use Rattle.golf_check_types.specs.Files.{names_faults, none_above}
use Rattle.golf_check_names.proofs.declared.names_are_good.Given as goal

abbrev pub invariant-loop-decl : goal.invariant-loop-decl
invariant-loop-decl l = names_faults l.file (record { names = l.names; structs = l.structs; functions = l.functions })
    (drop l.decl-index l.decls) ≡ names_faults l.file none_above l.decls
