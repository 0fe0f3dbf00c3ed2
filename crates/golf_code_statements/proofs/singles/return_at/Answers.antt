use Rattle.std.proofs.Common.{◌∙◌}
use Rattle.golf_code_facts.specs.Statements.{return_by}
use Rattle.golf_code_statements.proofs.Seams.{quiet}
use Rattle.golf_code_statements.proofs.singles.return_at.Goals as goal

pub returns : goal.returns
returns c =
    let w = c.args.writer.now in
    let x = return_by w.draft.tables.now c.args.line c.args.e.now w.facts in
    c.in_ok-returned.ensures ∙ quiet w x.piece x.left
