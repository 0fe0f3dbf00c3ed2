use Rattle.golf_check_operands.proofs.Selected.{selected_value}
use Rattle.golf_check_operands.proofs.selectors.select.Goals as goal

pub returns-in_ok-given-in_default : goal.returns-in_ok-given-in_default
returns-in_ok-given-in_default c =
    selected_value c.value_member.result c.args.line c.args.file.now c.args.name.now c.args.operand
    c.in_ok-given-in_default.given c.in_default.not-Package c.in_ok-given-in_default.ensures.0
    c.in_ok-given-in_default.ensures.1 c.value_member.ensures
