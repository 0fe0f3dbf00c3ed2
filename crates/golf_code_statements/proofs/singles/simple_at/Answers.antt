use Rattle.std.proofs.Common.{◌∙◌}
use Rattle.golf_code_facts.specs.Statements.{simple_by}
use Rattle.golf_code_statements.proofs.Seams.{quiet}
use Rattle.golf_code_statements.proofs.singles.simple_at.Goals as goal

pub returns : goal.returns
returns c =
    let w = c.args.writer.now in
    let x = simple_by w.draft.tables.now c.args.one.now.line c.args.one.now.kind w.facts in
    c.in_ok-simple.ensures ∙ quiet w x.piece x.left
