use Rattle.std.proofs.Common.{ap, sym, ◌∙◌}
use Rattle.golf_syntax_statements.specs.declared.pending.Move.{Move}
use Rattle.golf_syntax_statements.specs.declared.pending.Move.TheVariants as moves
use Rattle.golf_syntax_statements.specs.Moves.{move_at}
use Rattle.golf_syntax_statements.proofs.Moves.{clause-then, clause-goes}
use Rattle.golf_syntax_statements.proofs.clauses.clause_move.Goals as goal

pub returns-then-begins_clause-clause-value : goal.returns-then-begins_clause-clause-value
returns-then-begins_clause-clause-value c = ap (λ (k : Move). move_at k c.args.tokens.now) c.in_ok-clauses.ensures
    ∙ clause-then c.args.select c.args.head c.args.done c.args.tokens.now c.in_ok-grown.field-0 c.in_ok-grown.ensures
    (sym c.begins_clause.ensures ∙ c.if-begins_clause.true)

pub returns-clause-value : goal.returns-clause-value
returns-clause-value c = ap (λ (k : Move). move_at k c.args.tokens.now)
    (c.in_ok-wait.ensures ∙ ap moves.Wait c.in_ok-pending.ensures)
    ∙ sym (clause-goes c.args.select c.args.head c.args.done c.args.tokens.now
    (sym c.begins_clause.ensures ∙ c.if-begins_clause.false))
