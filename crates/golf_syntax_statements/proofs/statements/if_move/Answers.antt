use Rattle.std.proofs.Common.{◌≡◌, subst}
use Rattle.std.specs.Prelude.{IfOk}
use Rattle.golf_syntax_statements.specs.Moves.{FoundStatement, moved}
use Rattle.golf_syntax_statements.proofs.Moves.{if-goes}
use Rattle.golf_syntax_statements.proofs.statements.if_move.Goals as goal

pub returns-in-Some-clause-value : goal.returns-in-Some-clause-value
returns-in-Some-clause-value c = subst (λ (x : FoundStatement). IfOk c.block_move.result (λ o. moved o ≡ x))
    (if-goes c.args.line c.args.tokens.now c.in-Some.behind.now c.in-Some.tested c.if_owner.result c.if_owner.ensures
    (rw c.in-Some.is at c.in_ok-test_at.ensures.value)) c.block_move.ensures.value
