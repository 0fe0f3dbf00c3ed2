-- The channel that an expression receives from.
-- For: `channel_of` (golf_syntax_statements/specs/CommunicationReader.antt) and `comm_of` (src/communications.rt)
-- By: cases of the kind of the expression and of its operator; no induction
use Rattle.std.proofs.Common.{◌≡◌, ℕ, List, ap, sym, ◌∙◌, refl}
use Rattle.std.specs.Prelude.{Some, None}
use Rattle.golf_syntax_trees.specs.declared.expressions.UnaryOperator.{UnaryOperator}
use Rattle.golf_syntax_trees.specs.declared.expressions.Expr.{Expr, out-Expr, roll-Expr, roll-out-Expr, out-roll-Expr}
use Rattle.golf_syntax_trees.specs.declared.expressions.Expr.TheOpen.{Expr-F}
use Rattle.golf_syntax_trees.specs.declared.expressions.Element.{Element}
use Rattle.golf_syntax_trees.specs.declared.expressions.UnaryOperator.TheVariants as unary
use Rattle.golf_syntax_expressions.proofs.Fronts.{some-same}
use Rattle.golf_syntax_trees.specs.declared.expressions.Expr.TheVariants as ex
use Rattle.golf_syntax_trees.specs.declared.expressions.Expr.TheOpen as F
use Rattle.golf_syntax_trees.specs.declared.statements.SimpleKind.{SimpleKind}
use Rattle.golf_syntax_trees.specs.declared.statements.SimpleKind.TheVariants as s
use Rattle.golf_syntax_statements.specs.CommunicationReader.{channel_in, channel_of, operand_of, comm_of}

-- an expression with a channel is a receive from it
pub channel-is : (e c : Expr) → channel_of e ≡ Some c → e ≡ ex.Unary unary.Receive c
channel-is e c h = at (out-Expr e) refl h
  where
    operand : (o : UnaryOperator) (a : Expr) → operand_of o a ≡ Some c
        → ◌≡◌ {A = Expr-F Expr Element} (F.Unary o a) (F.Unary unary.Receive c)
    operand unary.Receive a f = ap (λ b. F.Unary unary.Receive b) (some-same a c f)
    operand _ a f = cc

    at : (x : Expr-F Expr Element) → out-Expr e ≡ x → channel_in x ≡ Some c → e ≡ ex.Unary unary.Receive c
    at (F.Unary o a) is f = sym (roll-out-Expr e) ∙ ap roll-Expr (is ∙ operand o a f) ∙ ex.rolls-Unary unary.Receive c
    at _ is f = cc

-- simple statements that are no communications
pub no-comm : (k : SimpleKind) → ((e : Expr) → k ≡ s.Expression e → ⊥) → ((c v : Expr) → k ≡ s.Send c v → ⊥)
    → ((n : List ℕ) (e : Expr) → k ≡ s.Define n e → ⊥) → ((n m : List ℕ) (c : Expr) → k ≡ s.DefineReceived n m c → ⊥)
    → comm_of k ≡ None
no-comm (s.Expression e) p q d r = absurd (p e refl)
no-comm (s.Send c v) p q d r = absurd (q c v refl)
no-comm (s.Define n e) p q d r = absurd (d n e refl)
no-comm (s.DefineReceived n m c) p q d r = absurd (r n m c refl)
no-comm _ p q d r = refl

pub ruleset kind_steps = (no-comm)
