-- The parts of an expression that is a call or a receive, and of a statement that is a block.
use Rattle.std.specs.Prelude.{List, Option, Some, None}
use Rattle.golf_syntax_trees.specs.declared.expressions.UnaryOperator.{UnaryOperator}
use Rattle.golf_syntax_trees.specs.declared.expressions.UnaryOperator.TheVariants as unary
use Rattle.golf_syntax_trees.specs.declared.expressions.Expr.{Expr, out-Expr}
use Rattle.golf_syntax_trees.specs.declared.expressions.Expr.TheOpen.{Expr-F, Call, Unary}
use Rattle.golf_syntax_trees.specs.declared.expressions.Element.{Element}
use Rattle.golf_syntax_trees.specs.declared.statements.Stmt.{Stmt, out-Stmt}
use Rattle.golf_syntax_trees.specs.declared.statements.Clause.{Clause}
use Rattle.golf_syntax_trees.specs.declared.statements.Clause.TheOpen.{Stmt-F, Block}

abbrev pub call_in : Expr-F Expr Element → Option (Expr × List Expr)
call_in (Call f xs) = Some (f, xs)
call_in _ = None

-- callee and arguments
abbrev pub call_of : Expr → Option (Expr × List Expr)
call_of e = call_in (out-Expr e)

abbrev pub operand_of : UnaryOperator → Expr → Option Expr
operand_of unary.Receive c = Some c
operand_of _ c = None

abbrev pub channel_in : Expr-F Expr Element → Option Expr
channel_in (Unary o c) = operand_of o c
channel_in _ = None

-- the channel of a receive
abbrev pub channel_of : Expr → Option Expr
channel_of e = channel_in (out-Expr e)

abbrev pub statements_in : Stmt-F Clause Stmt → Option (List Stmt)
statements_in (Block l b) = Some b
statements_in _ = None

-- the statements of a block
abbrev pub statements_of : Stmt → Option (List Stmt)
statements_of s = statements_in (out-Stmt s)
