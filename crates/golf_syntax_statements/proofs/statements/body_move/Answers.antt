use Rattle.std.proofs.Common.{ap, ◌∙◌}
use Rattle.golf_syntax_statements.specs.declared.pending.Move.{Move}
use Rattle.golf_syntax_statements.specs.declared.pending.Move.TheVariants as moves
use Rattle.golf_syntax_statements.specs.Moves.{move_at}
use Rattle.golf_syntax_statements.proofs.Moves.{body-next}
use Rattle.golf_syntax_statements.proofs.statements.body_move.Goals as goal

pub returns-in-Some-clause-value : goal.returns-in-Some-clause-value
returns-in-Some-clause-value c = ap (λ (k : Move). move_at k c.in-Some.next.now)
    (c.in_ok-wait.ensures ∙ ap moves.Wait c.in_ok-pending.ensures)
    ∙ body-next c.args.owner c.args.done c.args.tokens.now c.in-Some.next.now c.in-Some.ensures.value
