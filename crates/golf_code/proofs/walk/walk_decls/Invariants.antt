use Rattle.std.proofs.Common.{◌≡◌, drop}
use Rattle.golf_code.specs.Steps.{ended, with_own}
use Rattle.golf_code.proofs.walk.walk_decls.Given as goal

abbrev pub invariant-loop-decl : goal.invariant-loop-decl
invariant-loop-decl l = with_own l.functions (ended l.walk (drop l.decl-index l.decls)) ≡ with_own l.fn.functions
    (ended l.fn.walk l.decls)
