use Rattle.std.proofs.Common.{◌≡◌, subst}
use Rattle.std.specs.Prelude.{IfOk}
use Rattle.golf_syntax_statements.specs.Moves.{FoundStatement, moved}
use Rattle.golf_syntax_statements.proofs.Moves.{for-goes}
use Rattle.golf_syntax_statements.proofs.statements.for_move.Goals as goal

pub returns-in-Some-clause-value : goal.returns-in-Some-clause-value
returns-in-Some-clause-value c = subst (λ (x : FoundStatement). IfOk c.block_move.result (λ o. moved o ≡ x))
    (for-goes _ _ _ _ _ c.for_owner.ensures (rw c.in-Some.is at c.in_ok-header_at.ensures.value))
    c.block_move.ensures.value
