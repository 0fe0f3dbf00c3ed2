use Rattle.std.proofs.Common.{ap}
use Rattle.golf_check_names.specs.Forms.{without_late}
use Rattle.golf_check_names.proofs.Laws.{refused_selector}
use Rattle.golf_check_names.proofs.forms.selected.Goals as goal

pub returns-in-At : goal.returns-in-At
returns-in-At c =
    ap without_late (refused_selector c.args.line c.args.file.now c.args.name.now c.args.operand c.select.result
    c.in-Err.fault c.in-At.line c.in-At.rule c.in-Err.is c.in-At.is c.select.ensures)
