-- The laws of readers, as statements: a reader finds exactly what is printed at the front.
use Rattle.std.specs.Prelude.{◌≡◌, ◌≤◌, Bool, true, false, ◌&&◌, List, Some, None}
use Rattle.golf_lex_tokens.specs.declared.token.Token.{Token}
use Rattle.golf_lex_tokens.specs.declared.token.Punctuation.TheVariants as punctuations
use Rattle.golf_syntax_trees.specs.declared.types.TypeExpr.{TypeExpr}
use Rattle.golf_syntax_trees.specs.declared.expressions.Expr.{Expr}
use Rattle.golf_syntax_trees.specs.declared.statements.Simple.{Simple}
use Rattle.golf_syntax_trees.specs.Words.{SpellsWords}
use Rattle.golf_syntax_trees.specs.Types.{print_type, type_form}
use Rattle.golf_syntax_trees.specs.Expressions.{print_expr, form}
use Rattle.golf_syntax_trees.specs.Simple.{print_simple, simple_form}
use Rattle.golf_syntax_expressions.specs.Front.{after}
use Rattle.golf_syntax_expressions.specs.Operators.{binary_at}
use Rattle.golf_syntax_expressions.specs.Starts.{suffix_at}
use Rattle.golf_syntax_expressions.specs.TypeReader.{type_at, OfType}
use Rattle.golf_syntax_expressions.specs.ExpressionReader.{Level, Prefixed, expr_at}
use Rattle.golf_syntax_expressions.specs.SimpleStatementReader.{follow_at, simple_at}

-- a well-formed type is printed at the front of these tokens, before the rest
pub record IsTypeIn (ts : List Token) (x : TypeExpr × List Token) : Type 0 where
  pub words : SpellsWords (print_type x.0) ts x.1
  pub good : (type_form x.0).good ≡ true

-- a well-formed expression is printed there; in a header no operand outside its brackets begins with `&`
pub record IsExprIn (header : Bool) (ts : List Token) (x : Expr × List Token) : Type 0 where
  pub words : SpellsWords (print_expr x.0) ts x.1
  pub good : (form x.0).good ≡ true
  pub clear : (header && (form x.0).ampersand) ≡ false

-- it is an operand that binds tighter than binary operators
pub record IsOperandIn (header : Bool) (ts : List Token) (x : Expr × List Token) : Type 0 where
  pub is : IsExprIn header ts x
  pub top : 6 ≤ (form x.0).top

pub record IsSimpleIn (header : Bool) (ts : List Token) (x : Simple × List Token) : Type 0 where
  pub words : SpellsWords (print_simple x.0) ts x.1
  pub good : (simple_form x.0.kind).good ≡ true
  pub clear : (header && (simple_form x.0.kind).ampersand) ≡ false

-- no suffix and no binary operator follows
pub record EndsExpr (ts : List Token) : Type 0 where
  pub suffix : suffix_at ts ≡ None
  pub operator : binary_at ts ≡ None

-- nor does anything that continues a simple statement
pub record EndsSimple (ts : List Token) : Type 0 where
  pub expr : EndsExpr ts
  pub follow : follow_at ts ≡ None
  pub define : after punctuations.Define ts ≡ None
  pub comma : after punctuations.Comma ts ≡ None

abbrev pub TypesFound : Type 0
TypesFound = (ts : List Token) (x : TypeExpr × List Token) → type_at OfType ts ≡ Some x → IsTypeIn ts x

abbrev pub TypesRead : Type 0
TypesRead = (ts : List Token) (x : TypeExpr × List Token) → IsTypeIn ts x → after punctuations.Dot x.1 ≡ None
    → type_at OfType ts ≡ Some x

abbrev pub ExpressionsFound : Type 0
ExpressionsFound = (header : Bool) (ts : List Token) (x : Expr × List Token) → expr_at (Level header 1) ts ≡ Some x
    → IsExprIn header ts x

abbrev pub ExpressionsRead : Type 0
ExpressionsRead = (header : Bool) (ts : List Token) (x : Expr × List Token) → IsExprIn header ts x → EndsExpr x.1
    → expr_at (Level header 1) ts ≡ Some x

abbrev pub OperandsFound : Type 0
OperandsFound = (header : Bool) (ts : List Token) (x : Expr × List Token) → expr_at (Prefixed header) ts ≡ Some x
    → IsOperandIn header ts x

abbrev pub OperandsRead : Type 0
OperandsRead = (header : Bool) (ts : List Token) (x : Expr × List Token) → IsOperandIn header ts x → EndsExpr x.1
    → expr_at (Prefixed header) ts ≡ Some x

abbrev pub SimplesFound : Type 0
SimplesFound = (header : Bool) (ts : List Token) (x : Simple × List Token) → simple_at header ts ≡ Some x
    → IsSimpleIn header ts x

abbrev pub SimplesRead : Type 0
SimplesRead = (header : Bool) (ts : List Token) (x : Simple × List Token) → IsSimpleIn header ts x → EndsSimple x.1
    → simple_at header ts ≡ Some x
