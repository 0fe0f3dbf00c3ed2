-- The parts of calls, receives and blocks.
-- For: `into_call` and `into_channel`, src/expressions.rt; `into_statements`, src/statements.rt
-- By: computing; no induction
use Rattle.std.proofs.Common.{◌≡◌, ℕ, List, ap, sym, ◌∙◌}
use Rattle.std.specs.Prelude.{Some}
use Rattle.golf_syntax_trees.specs.declared.expressions.UnaryOperator.{UnaryOperator}
use Rattle.golf_syntax_trees.specs.declared.expressions.Expr.{Expr, out-roll-Expr}
use Rattle.golf_syntax_trees.specs.declared.expressions.Expr.TheVariants as ex
use Rattle.golf_syntax_trees.specs.declared.expressions.Expr.TheOpen as F
use Rattle.golf_syntax_trees.specs.declared.statements.Stmt.{Stmt, out-roll-Stmt}
use Rattle.golf_syntax_trees.specs.declared.statements.Stmt.TheVariants as st
use Rattle.golf_syntax_trees.specs.declared.statements.Clause.TheOpen as G
use Rattle.golf_syntax_trees.specs.Parts.{call_in, call_of, operand_of, channel_in, channel_of, statements_in}
use Rattle.golf_syntax_trees.specs.Parts.{statements_of}

pub call_parts : (f : Expr) (xs : List Expr) → call_of (ex.Call f xs) ≡ Some (f, xs)
call_parts f xs = ap call_of (sym (ex.rolls-Call f xs)) ∙ ap call_in (out-roll-Expr (F.Call f xs))

pub channel_parts : (o : UnaryOperator) (c : Expr) → channel_of (ex.Unary o c) ≡ operand_of o c
channel_parts o c = ap channel_of (sym (ex.rolls-Unary o c)) ∙ ap channel_in (out-roll-Expr (F.Unary o c))

pub block_parts : (l : ℕ) (b : List Stmt) → statements_of (st.Block l b) ≡ Some b
block_parts l b = ap statements_of (sym (st.rolls-Block l b)) ∙ ap statements_in (out-roll-Stmt (G.Block l b))
