use Rattle.std.proofs.Common.{◌∙◌}
use Rattle.golf_code_facts.specs.Statements.{var_by}
use Rattle.golf_code_statements.proofs.Seams.{quiet}
use Rattle.golf_code_statements.proofs.singles.variable_at.Goals as goal

pub returns : goal.returns
returns c =
    let w = c.args.writer.now in
    let x = var_by w.draft.tables.now c.args.var.now.line c.args.var.now.content w.facts in
    c.in_ok-variable.ensures ∙ quiet w x.piece x.left
