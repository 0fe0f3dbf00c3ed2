use Rattle.std.proofs.Common.{ap, ◌∙◌}
use Rattle.golf_check_types.specs.Files.{all_typed_names}
use Rattle.golf_check.proofs.Laws.{func_tells}
use Rattle.golf_check.proofs.functions.function.Goals as goal

pub returns : goal.returns
returns c =
    func_tells c.typed_function.result c.args.func.now c.args.checker.now c.typed_function.new.checker
    (record {
      receiver = c.in_ok-receiver.receiver;
      parameters = c.as_slice-typed.result.now;
      result = c.in_ok-result_type.result_type;
      receiver_is = c.in_ok-receiver.ensures;
      parameters_are = c.as_slice-typed.ensures ∙ c.in_ok-names.ensures
          ∙ ap (all_typed_names c.args.checker.now.scope) c.as_slice-parameters.ensures;
      result_is = c.in_ok-result_type.ensures;
    })
    c.typed_function.ensures
