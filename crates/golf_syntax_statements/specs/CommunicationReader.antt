-- How the communication of a clause of `select` is read (Go specification, "Select statements").
use Rattle.std.specs.Prelude.{ℕ, false, List, Option, Some, None, option_map}
use Rattle.std.specs.Borrow.{Bor}
use Rattle.golf_lex_tokens.specs.declared.token.Token.{Token}
use Rattle.golf_lex_tokens.specs.declared.token.Punctuation.TheVariants as punctuations
use Rattle.golf_syntax_trees.specs.declared.expressions.UnaryOperator.{UnaryOperator}
use Rattle.golf_syntax_trees.specs.declared.expressions.UnaryOperator.TheVariants as unary
use Rattle.golf_syntax_trees.specs.declared.expressions.Expr.{Expr, out-Expr}
use Rattle.golf_syntax_trees.specs.declared.expressions.Expr.TheOpen as F
use Rattle.golf_syntax_trees.specs.declared.expressions.Expr.TheOpen.{Expr-F}
use Rattle.golf_syntax_trees.specs.declared.expressions.Element.{Element}
use Rattle.golf_syntax_trees.specs.declared.statements.SimpleKind.{SimpleKind}
use Rattle.golf_syntax_trees.specs.declared.statements.SimpleKind.TheVariants as s
use Rattle.golf_syntax_trees.specs.declared.statements.Communication.{Communication}
use Rattle.golf_syntax_trees.specs.declared.statements.Communication.TheVariants as comm
use Rattle.golf_syntax_expressions.specs.Plan.{◌>>=◌}
use Rattle.golf_syntax_expressions.specs.Front.{after, name_at}
use Rattle.golf_syntax_expressions.specs.ExpressionReader.{Prefixed, expr_at}
use Rattle.golf_syntax_expressions.specs.SimpleStatementReader.{simple_at}
pub use Rattle.golf_syntax_trees.specs.Parts.{operand_of, channel_in, channel_of}

-- the communication of a simple statement, if it is one
abbrev pub comm_of : SimpleKind → Option Communication
comm_of (s.Expression e) = channel_of e >>= λ c. Some (comm.Receive c)
comm_of (s.Send c v) = Some (comm.Send c v)
comm_of (s.Define n v) = channel_of v >>= λ c. Some (comm.Define n c)
comm_of (s.DefineReceived n m c) = Some (comm.DefineReceived n m c)
comm_of _ = None

-- `name =`
abbrev pub assigned_at : List Token → Option (List ℕ × List Token)
assigned_at ts = name_at ts >>= λ n. after punctuations.Assign n.1 >>= λ us. Some (n.0, us)

abbrev pub comm_by : List Token → Option (List ℕ × List Token) → Option (Communication × List Token)
comm_by ts (Some n) = after punctuations.Arrow n.1 >>= λ us. expr_at (Prefixed false) us >>= λ c. Some
    (comm.Assign n.0 c.0, c.1)
comm_by ts None = simple_at false ts >>= λ x. comm_of x.0.kind >>= λ c. Some (c, x.1)

-- the communication at the front, and the tokens after it
unfoldable pub comm_at : List Token → Option (Communication × List Token)
comm_at ts = comm_by ts (assigned_at ts)

-- the values behind the references
abbrev pub assigned_seen : Option (Bor (List ℕ) × Bor (List Token)) → Option (List ℕ × List Token)
assigned_seen o = option_map (λ x. (x.0.now, x.1.now)) o
