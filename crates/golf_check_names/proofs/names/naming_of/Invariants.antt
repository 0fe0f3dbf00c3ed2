use Rattle.std.proofs.Common.{◌≡◌, drop}
use Rattle.std.specs.Prelude.{fold}
use Rattle.golf_check_types.specs.Files.{decl_added, naming_of}
use Rattle.golf_check_names.proofs.names.naming_of.Given as goal

abbrev pub invariant-loop-decl : goal.invariant-loop-decl
invariant-loop-decl l = fold decl_added l.naming (drop l.decl-index l.decls) ≡ naming_of l.decls
