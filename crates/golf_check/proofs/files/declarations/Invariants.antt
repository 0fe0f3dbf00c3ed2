use Rattle.std.proofs.Common.{◌≡◌, ◌++◌, drop}
use Rattle.golf_check_types.specs.Files.{walk_faults, walk_facts}
use Rattle.golf_check.proofs.files.declarations.Given as goal

abbrev pub invariant-loop-decl : goal.invariant-loop-decl
invariant-loop-decl l =
    let file = l.fn.checker.scope.file in
    record {
      scope : l.checker.scope ≡ l.fn.checker.scope;
      faults : walk_faults file l.globals_above (drop l.decl-index l.decls) ≡ walk_faults file 0 l.decls;
      facts : l.checker.facts ++ walk_facts file l.globals_above (drop l.decl-index l.decls) ≡ l.fn.checker.facts
          ++ walk_facts file 0 l.decls;
    }
