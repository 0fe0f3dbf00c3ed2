-- The definitions on small texts.
use Rattle.std.proofs.Common.{◌≡◌, ℕ, true, false, List, [], ◌∷◌, refl}
use Rattle.std.specs.Prelude.{Some, None, codes}
use Rattle.golf_lex_tokens.specs.declared.token.Token.{Token}
use Rattle.golf_lex_tokens.specs.declared.token.TokenKind.{TokenKind}
use Rattle.golf_lex_tokens.specs.declared.token.TokenKind.TheVariants as kinds
use Rattle.golf_lex_tokens.specs.declared.token.Punctuation.{Punctuation}
use Rattle.golf_lex_tokens.specs.declared.token.Punctuation.TheVariants as punctuations
use Rattle.golf_lex_tokens.specs.declared.token.Keyword.{Keyword}
use Rattle.golf_lex_tokens.specs.declared.token.Keyword.TheVariants as keywords
use Rattle.golf_syntax_trees.specs.declared.types.TypeExpr.TheVariants as types
use Rattle.golf_syntax_trees.specs.declared.expressions.BinaryOperator.TheVariants as binary
use Rattle.golf_syntax_trees.specs.declared.expressions.Expr.{Expr}
use Rattle.golf_syntax_trees.specs.declared.expressions.Expr.TheVariants as ex
use Rattle.golf_syntax_trees.specs.Words as words
use Rattle.golf_syntax_trees.specs.Types.{type_form}
use Rattle.golf_syntax_trees.specs.Expressions.{print_expr, form}
use Rattle.golf_syntax_expressions.specs.TypeReader.{type_at, OfType}
use Rattle.golf_syntax_expressions.specs.Operators.{unary_at, binary_at}
use Rattle.golf_syntax_expressions.specs.Starts.{start_at, start_from, named_start, make_start, new_start, empty_start}
use Rattle.golf_syntax_expressions.specs.Starts.{slice_start, sync_start, literal_start, punctuation_start, suffix_at}
use Rattle.golf_syntax_expressions.specs.Starts.{call_at}
use Rattle.golf_syntax_expressions.specs.ExpressionReader.{Level, expr_at}
use Rattle.golf_syntax_expressions.proofs.TypeShapes as type_shape
use Rattle.golf_syntax_expressions.proofs.ExprShapes as shape

abbrev on : ℕ → TokenKind → Token
on l k = record { kind = k; line = l }

abbrev punctuation : Punctuation → Token
punctuation m = on 1 (kinds.Punctuation m)

abbrev word : Keyword → Token
word k = on 1 (kinds.Keyword k)

abbrev named : List ℕ → Token
named n = on 1 (kinds.Name n)

abbrev x : Expr
x = ex.Name (codes "x")

abbrev y : Expr
y = ex.Name (codes "y")

abbrev z : Expr
z = ex.Name (codes "z")

-- `x + y * z`
sum_of_product : print_expr (ex.Binary binary.Add x (ex.Binary binary.Multiply y z)) ≡ words.name (codes "x")
    ∷ words.punctuation punctuations.Plus ∷ words.name (codes "y") ∷ words.punctuation punctuations.Star
    ∷ words.name (codes "z") ∷ []
sum_of_product = simp (shape.print-Binary, shape.print-Name)

-- a product of a sum wants parentheses
product_of_sum : (form (ex.Binary binary.Multiply (ex.Binary binary.Add x y) z)).good ≡ false
product_of_sum = simp (shape.form-Binary, shape.form-Name)

product_of_group : (form (ex.Binary binary.Multiply (ex.Parens (ex.Binary binary.Add x y)) z)).good ≡ true
product_of_group = simp (shape.form-Binary, shape.form-Parens, shape.form-Name)

-- `x - (y - z)` wants its parentheses too
grouped_right : (form (ex.Binary binary.Subtract x (ex.Binary binary.Subtract y z))).good ≡ false
grouped_right = simp (shape.form-Binary, shape.form-Name)

-- `chan <-chan int` is a channel that one may only send on
arrow_to_the_left : (type_form (types.Chan (types.ReceiveChan (types.Named (codes "int"))))).good ≡ false
arrow_to_the_left = simp (type_shape.form-Chan, type_shape.form-ReceiveChan, type_shape.form-Named)

chan_of_chan : type_at OfType (word keywords.Chan ∷ punctuation punctuations.Arrow ∷ word keywords.Chan
    ∷ named (codes "int") ∷ []) ≡ Some (types.SendChan (types.Chan (types.Named (codes "int"))), [])
unfolding type_at
chan_of_chan = refl

-- `make` is no operand
make_alone : (form (ex.Name (codes "make"))).good ≡ false
make_alone = simp shape.form-Name

-- `x - y - z` groups to the left
groups_left : expr_at (Level false 1) (named (codes "x") ∷ punctuation punctuations.Minus ∷ named (codes "y")
    ∷ punctuation punctuations.Minus ∷ named (codes "z") ∷ []) ≡ Some
    (ex.Binary binary.Subtract (ex.Binary binary.Subtract x y) z, [])
unfolding expr_at unary_at binary_at start_at start_from named_start make_start new_start empty_start slice_start
    sync_start literal_start punctuation_start suffix_at call_at
groups_left = refl

-- `&T{}` is no operand of a header
no_literal_in_header : expr_at (Level true 1)
    (punctuation punctuations.Ampersand ∷ named (codes "T") ∷ punctuation punctuations.OpenBrace
    ∷ punctuation punctuations.CloseBrace ∷ []) ≡ None
unfolding expr_at unary_at binary_at start_at start_from named_start make_start new_start empty_start slice_start
    sync_start literal_start punctuation_start suffix_at call_at
no_literal_in_header = refl

-- but it is one in brackets: `(&T{})`
literal_in_parens : expr_at (Level true 1)
    (punctuation punctuations.OpenParen ∷ punctuation punctuations.Ampersand ∷ named (codes "T")
    ∷ punctuation punctuations.OpenBrace ∷ punctuation punctuations.CloseBrace ∷ punctuation punctuations.CloseParen
    ∷ []) ≡ Some (ex.Parens (ex.StructLiteral (codes "T") []), [])
unfolding expr_at unary_at binary_at start_at start_from named_start make_start new_start empty_start slice_start
    sync_start literal_start punctuation_start suffix_at call_at
literal_in_parens = refl
