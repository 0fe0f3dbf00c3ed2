use Rattle.std.proofs.Common.{subst, slice_get}
use Rattle.golf_data.specs.declared.code.Code.{Code}
use Rattle.golf_meaning.specs.Judged.{AreSame}
use Rattle.golf_meaning.proofs.Laws.{body-agrees}
use Rattle.golf_meaning.proofs.comparison.check_body.Goals as goal

pub returns-clause-agrees : goal.returns-clause-agrees
returns-clause-agrees c = λ same.
    let k = c.args.function in
    let code = c.args.code.now in
    let is_code_of =
    subst (λ (made : Code). AreSame (slice_get code.functions k) (slice_get made.functions k))
    c.in_ok-made.ensures (c.are_same.ensures.0 same) in
    body-agrees c.args.checked.now code k is_code_of
