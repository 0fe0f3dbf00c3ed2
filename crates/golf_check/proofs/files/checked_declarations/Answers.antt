use Rattle.std.specs.Prelude.{Ok, Err}
use Rattle.golf_check_bodies.specs.declared.checker.Checker.{Checker}
use Rattle.golf_check.proofs.Laws.{named_tells}
use Rattle.golf_check.proofs.files.checked_declarations.Goals as goal

pub returns-in-Ok : goal.returns-in-Ok
returns-in-Ok c =
    named_tells (Ok c.in-Ok.field-0) c.args.imports c.in_ok-scope.scope c.named_declarations.new.checker.scope
    c.new-facts.result c.named_declarations.new.checker.facts c.args.decls.now c.in_ok-scope.ensures
    c.new-facts.ensures c.in-Ok.ensures

pub returns-in-Err : goal.returns-in-Err
returns-in-Err c =
    named_tells {A = Checker} (Err c.in-Err.fault) c.args.imports c.in_ok-scope.scope
    c.named_declarations.new.checker.scope c.new-facts.result c.named_declarations.new.checker.facts
    c.args.decls.now c.in_ok-scope.ensures c.new-facts.ensures c.in-Err.ensures
