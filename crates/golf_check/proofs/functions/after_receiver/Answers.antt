use Rattle.std.proofs.Common.{ap}
use Rattle.std.specs.Prelude.{Ok}
use Rattle.golf_check_types.specs.declared.scopes.Scope.{Scope}
use Rattle.golf_check.specs.Heads.{body_walks}
use Rattle.golf_check.proofs.Laws.{inner_tells}
use Rattle.golf_check.proofs.functions.after_receiver.Goals as goal

pub returns : goal.returns
returns c =
    let h = inner_tells (Ok c.in_ok-body.field-0) c.args.func.now.line c.args.names.now
    (body_walks c.args.func.now) c.args.checker.now c.body.new.checker
    (record {
      after = c.parameters.new.checker;
      none = c.in_ok-parameters.ensures.0;
      scope_is = c.in_ok-parameters.ensures.1.0;
      facts_are = c.in_ok-parameters.ensures.1.1;
    })
    c.in_ok-body.ensures in
    (h.0, (ap (λ (t : Scope). t.next) c.in_ok-parameters.ensures.1.0, h.1))
