use Rattle.std.proofs.Common.{◌↔◌, drop}
use Rattle.golf_code.specs.Steps.{ended}
use Rattle.golf_code.specs.Comparison.{BeginAs}
use Rattle.golf_code.proofs.comparison.begin_as.Given as goal

abbrev pub invariant-loop-decl : goal.invariant-loop-decl
invariant-loop-decl l = BeginAs l.left (ended l.walk (drop l.decl-index l.decls)).own
    ↔ BeginAs l.functions (ended l.fn.walk l.decls).own
