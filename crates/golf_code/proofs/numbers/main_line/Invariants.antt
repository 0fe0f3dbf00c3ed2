use Rattle.std.proofs.Common.{◌≡◌, drop}
use Rattle.golf_code_of.specs.Files.{main_line}
use Rattle.golf_code.proofs.numbers.main_line.Given as goal

abbrev pub invariant-loop-decl : goal.invariant-loop-decl
invariant-loop-decl l = main_line (drop l.decl-index l.decls) ≡ main_line l.decls
