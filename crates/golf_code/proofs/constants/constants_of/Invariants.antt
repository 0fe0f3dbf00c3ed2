use Rattle.std.proofs.Common.{◌≡◌, ◌++◌, drop}
use Rattle.golf_code_facts.specs.Files.{constants_by}
use Rattle.golf_code.proofs.constants.constants_of.Given as goal

abbrev pub invariant-loop-decl : goal.invariant-loop-decl
invariant-loop-decl l = l.constants ++ constants_by l.texts (drop l.decl-index l.decls) l.left
    ≡ constants_by l.texts l.decls l.fn.facts
