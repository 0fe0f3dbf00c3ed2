use Rattle.std.proofs.Common.{◌≡◌, ◌++◌, map, drop}
use Rattle.golf_check_types.specs.Statements.{in_order, behind}
use Rattle.golf_check_types.specs.Files.{parameter_walk}
use Rattle.golf_check.proofs.functions.parameters.Given as goal

abbrev pub invariant-loop-named : goal.invariant-loop-named
invariant-loop-named l =
    let all = in_order (map (parameter_walk l.line) l.names) l.fn.checker.scope in
    let rest = in_order (map (parameter_walk l.line) (drop l.named-index l.names)) l.checker.scope in
    record {
      faults : rest.faults ≡ all.faults;
      scope : behind l.checker.scope rest ≡ behind l.fn.checker.scope all;
      facts : l.checker.facts ++ rest.facts ≡ l.fn.checker.facts ++ all.facts;
    }
