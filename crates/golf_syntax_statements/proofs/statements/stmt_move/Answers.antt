use Rattle.std.proofs.Common.{◌≡◌, subst}
use Rattle.std.specs.Prelude.{IfOk}
use Rattle.golf_syntax_statements.specs.Moves.{FoundStatement, moved}
use Rattle.golf_syntax_statements.proofs.Moves.{stmt-none, stmt-split}
use Rattle.golf_syntax_statements.proofs.statements.stmt_move.Goals as goal

pub returns-in-None-clause-value : goal.returns-in-None-clause-value
returns-in-None-clause-value c = stmt-none c.args.tokens.now c.in-None.ensures.cases

pub returns-in-Some-clause-value : goal.returns-in-Some-clause-value
returns-in-Some-clause-value c = subst (λ (x : FoundStatement). IfOk c.kind_move.result (λ o. moved o ≡ x))
    (stmt-split c.in-Some.first.now c.in-Some.behind.now c.args.tokens.now c.in-Some.ensures.cases.0)
    c.kind_move.ensures.value
