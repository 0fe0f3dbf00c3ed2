use Rattle.std.proofs.Common.{◌≡◌, drop}
use Rattle.golf_check_types.specs.Files.{outside, with_forms}
use Rattle.golf_check_names.proofs.globals.form_globals.Given as goal

abbrev pub invariant-loop-decl : goal.invariant-loop-decl
invariant-loop-decl l = record {
  outside : l.scope ≡ outside l.scope.file;
  forms : with_forms l.scope.file l.global (drop l.decl-index l.decls) ≡ with_forms l.fn.scope.file 0 l.decls;
}
