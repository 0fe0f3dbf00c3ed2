use Rattle.std.proofs.Common.{◌≡◌, drop}
use Rattle.golf_check_types.specs.Files.{main_faults}
use Rattle.golf_check_names.proofs.declared.main_is_there.Given as goal

abbrev pub invariant-loop-decl : goal.invariant-loop-decl
invariant-loop-decl l = main_faults (drop l.decl-index l.decls) ≡ main_faults l.decls
