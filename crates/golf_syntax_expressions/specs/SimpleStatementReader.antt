-- How a simple statement is read.
use Rattle.std.specs.Prelude.{ℕ, Bool, List, [], ◌∷◌, Option, Some, None}
use Rattle.golf_lex_tokens.specs.declared.token.Token.{Token}
use Rattle.golf_lex_tokens.specs.declared.token.Punctuation.{Punctuation}
use Rattle.golf_lex_tokens.specs.declared.token.Punctuation.TheVariants as punctuations
use Rattle.golf_syntax_trees.specs.declared.expressions.Expr.{Expr}
use Rattle.golf_syntax_trees.specs.declared.statements.UpdateOperator.TheVariants as update
use Rattle.golf_syntax_trees.specs.declared.statements.Simple.{Simple}
use Rattle.golf_syntax_trees.specs.declared.statements.SimpleKind.{SimpleKind}
use Rattle.golf_syntax_trees.specs.declared.statements.SimpleKind.TheVariants as s
use Rattle.golf_syntax_expressions.specs.declared.simple.Follow.{Follow}
use Rattle.golf_syntax_expressions.specs.declared.simple.Follow.TheVariants as follows
use Rattle.golf_syntax_expressions.specs.Plan.{◌>>=◌}
use Rattle.golf_syntax_expressions.specs.Front.{after, name_at}
use Rattle.golf_syntax_expressions.specs.Operators.{punctuation_of}
use Rattle.golf_syntax_expressions.specs.ExpressionReader.{Level, Prefixed, expr_at}

abbrev pub FoundSimple : Type 0
FoundSimple = Option (SimpleKind × List Token)

-- what a punctuation mark begins after the first expression of a simple statement
abbrev pub follow_of : Punctuation → Option Follow
follow_of punctuations.Arrow = Some follows.Sends
follow_of punctuations.Increment = Some follows.Increments
follow_of punctuations.Decrement = Some follows.Decrements
follow_of punctuations.Assign = Some follows.Assigns
follow_of punctuations.PlusAssign = Some (follows.Updates update.Add)
follow_of punctuations.MinusAssign = Some (follows.Updates update.Subtract)
follow_of punctuations.StarAssign = Some (follows.Updates update.Multiply)
follow_of punctuations.SlashAssign = Some (follows.Updates update.Divide)
follow_of punctuations.PercentAssign = Some (follows.Updates update.Remainder)
follow_of _ = None

unfoldable pub follow_at : List Token → Option (Follow × List Token)
follow_at [] = None
follow_at (t ∷ ts) = punctuation_of t.kind >>= λ m. follow_of m >>= λ f. Some (f, ts)

-- the second expression
abbrev pub second : Bool → (Expr → SimpleKind) → List Token → FoundSimple
second header wrap ts = expr_at (Level header 1) ts >>= λ v. Some (wrap v.0, v.1)

abbrev pub followed : Bool → Expr → Follow → List Token → FoundSimple
followed header e follows.Sends ts = second header (s.Send e) ts
followed header e follows.Increments ts = Some (s.Increment e, ts)
followed header e follows.Decrements ts = Some (s.Decrement e, ts)
followed header e follows.Assigns ts = second header (s.Assign e) ts
followed header e (follows.Updates o) ts = second header (s.Update e o) ts

abbrev pub behind_expr : Bool → Expr → List Token → Option (Follow × List Token) → FoundSimple
behind_expr header e ts None = Some (s.Expression e, ts)
behind_expr header e ts (Some f) = followed header e f.0 f.1

-- a simple statement that begins with an expression
unfoldable pub expression_at : Bool → List Token → FoundSimple
expression_at header ts = expr_at (Level header 1) ts >>= λ e. behind_expr header e.0 e.1 (follow_at e.1)

-- `<-channel` after two names
abbrev pub received : Bool → (Expr → SimpleKind) → List Token → FoundSimple
received header wrap ts = after punctuations.Arrow ts >>= λ us. expr_at (Prefixed header) us >>= λ c. Some
    (wrap c.0, c.1)

abbrev pub behind_names : Bool → List ℕ → List ℕ → List Token → Option (List Token) → FoundSimple
behind_names header n m ts (Some us) = received header (s.DefineReceived n m) us
behind_names header n m ts None = after punctuations.Assign ts >>= received header (s.AssignReceived n m)

-- `, ok := <-channel` or `, ok = <-channel` after a name
unfoldable pub pair_at : Bool → List ℕ → List Token → FoundSimple
pair_at header n ts = name_at ts >>= λ m. behind_names header n m.0 m.1 (after punctuations.Define m.1)

-- what follows a first name: `:=`, a comma, or the rest of an expression
abbrev pub behind_name : Bool → List ℕ → List Token → Option (List Token) → Option (List Token) → FoundSimple
behind_name header n ts (Some us) comma = second header (s.Define n) us
behind_name header n ts None (Some us) = pair_at header n us
behind_name header n ts None None = expression_at header ts

abbrev pub kind_by : Bool → List Token → Option (List ℕ × List Token) → FoundSimple
kind_by header ts None = expression_at header ts
kind_by header ts (Some n) = behind_name header n.0 ts (after punctuations.Define n.1) (after punctuations.Comma n.1)

unfoldable pub kind_at : Bool → List Token → FoundSimple
kind_at header ts = kind_by header ts (name_at ts)

-- the simple statement at the front, with the line of its first token, and the tokens after it
unfoldable pub simple_at : Bool → List Token → Option (Simple × List Token)
simple_at header [] = None
simple_at header (t ∷ ts) = kind_at header (t ∷ ts) >>= λ x. Some (record { line = t.line; kind = x.0 }, x.1)
