use Rattle.std.proofs.Common.{rules, subst, sym, ◌∙◌}
use Rattle.golf_check_types.specs.Faults.{StopsAt}
use Rattle.golf_check_types.specs.Expressions.{field_type, put_faults}
use Rattle.golf_check_types.proofs.Seams.{refuses_front}
use Rattle.golf_check_operands.proofs.Puts.{first_put}
use Rattle.golf_check_operands.proofs.literals.all_fit.Goals as goal

pub returns-in_err-element_fits-in-len1-up : goal.returns-in_err-element_fits-in-len1-up
returns-in_err-element_fits-in-len1-up c =
    let fault = c.in_err-element_fits-in-len1-up.field-0.0 in
    let first = first_put c.args.line c.args.file.now c.args.base c.args.elements.now c.loop-e.rest.now c.loop-e.e-index
    c.loop-e-test.true c.e-item.is c.in-len1-up.len_at_least c.v-item.is in
    let all = subst (StopsAt fault) (sym first ∙ c.loop-e.invariant)
    (refuses_front fault (put_faults c.args.line
    (field_type c.args.file.now c.args.base c.e-item.result.field) c.v-item.result) _
    c.in_err-element_fits-in-len1-up.ensures) in
    search (rules, all)
