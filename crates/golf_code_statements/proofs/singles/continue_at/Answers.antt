use Rattle.std.proofs.Common.{ap, ◌∙◌}
use Rattle.golf_code_layout.specs.Piece.{Piece}
use Rattle.golf_code_statements.proofs.Seams.{quiet, written}
use Rattle.golf_code_statements.proofs.singles.continue_at.Goals as goal

pub returns : goal.returns
returns c =
    let w = c.args.writer.now in
    ap (λ ms. written w.facts (record w.draft { emitted = ms })) c.in_ok-exit.ensures
    ∙ quiet w (Piece.Exit c.args.line c.args.targets.continues) w.facts
