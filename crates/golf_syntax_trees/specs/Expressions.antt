-- The words that expressions print, and which expressions are well formed.
use Rattle.std.specs.Str.{bytes_eq}
use Rattle.std.specs.List.{list_all}
use Rattle.std.specs.Prelude.{ℕ, Bool, true, false, not, ◌&&◌, ◌||◌, nat_le, nat_lt, List, [], ◌∷◌, ◌++◌, codes}
use Rattle.golf_lex_tokens.specs.declared.token.TokenKind.TheVariants as kinds
use Rattle.golf_lex_tokens.specs.declared.token.Punctuation.{Punctuation}
use Rattle.golf_lex_tokens.specs.declared.token.Punctuation.TheVariants as punctuations
use Rattle.golf_lex_tokens.specs.declared.token.Keyword.TheVariants as keywords
use Rattle.golf_syntax_trees.specs.declared.expressions.UnaryOperator.{UnaryOperator}
use Rattle.golf_syntax_trees.specs.declared.expressions.UnaryOperator.TheVariants as unary
use Rattle.golf_syntax_trees.specs.declared.expressions.BinaryOperator.{BinaryOperator}
use Rattle.golf_syntax_trees.specs.declared.expressions.BinaryOperator.TheVariants as binary
use Rattle.golf_syntax_trees.specs.declared.expressions.Expr.{Expr}
use Rattle.golf_syntax_trees.specs.declared.expressions.Element.{Element}
use Rattle.golf_syntax_trees.specs.declared.expressions.Expr.TheOpen.{Expr-F, Element-F, Integer, Text, Name, Parens}
use Rattle.golf_syntax_trees.specs.declared.expressions.Expr.TheOpen.{StructLiteral, SyncLiteral, SliceLiteral}
use Rattle.golf_syntax_trees.specs.declared.expressions.Expr.TheOpen.{EmptyLiteral, Make, MakeSized, New, NewSync}
use Rattle.golf_syntax_trees.specs.declared.expressions.Expr.TheOpen.{Selector, Index, Call, Unary, Binary}
use Rattle.golf_syntax_trees.specs.declared.expressions.Expr.TheFolds.{fold-Expr, fold-Element}
use Rattle.golf_syntax_trees.specs.Words.{Word, word, punctuation, keyword, name, separated}
use Rattle.golf_syntax_trees.specs.Types.{sync, print_type, type_form}

-- the names `make` and `new`, which cannot be operands
abbrev pub make : List ℕ
make = codes "make"

abbrev pub new : List ℕ
new = codes "new"

abbrev pub unary_punctuation : UnaryOperator → Punctuation
unary_punctuation unary.Negate = punctuations.Minus
unary_punctuation unary.Not = punctuations.Not
unary_punctuation unary.Receive = punctuations.Arrow

abbrev pub binary_punctuation : BinaryOperator → Punctuation
binary_punctuation binary.Or = punctuations.Or
binary_punctuation binary.And = punctuations.And
binary_punctuation binary.Equal = punctuations.Equal
binary_punctuation binary.NotEqual = punctuations.NotEqual
binary_punctuation binary.Less = punctuations.Less
binary_punctuation binary.AtMost = punctuations.AtMost
binary_punctuation binary.Greater = punctuations.Greater
binary_punctuation binary.AtLeast = punctuations.AtLeast
binary_punctuation binary.Add = punctuations.Plus
binary_punctuation binary.Subtract = punctuations.Minus
binary_punctuation binary.Multiply = punctuations.Star
binary_punctuation binary.Divide = punctuations.Slash
binary_punctuation binary.Remainder = punctuations.Percent

-- how tightly an operator binds (Go specification, "Operator precedence")
abbrev pub binds : BinaryOperator → ℕ
binds binary.Or = 1
binds binary.And = 2
binds binary.Equal = 3
binds binary.NotEqual = 3
binds binary.Less = 3
binds binary.AtMost = 3
binds binary.Greater = 3
binds binary.AtLeast = 3
binds binary.Add = 4
binds binary.Subtract = 4
binds binary.Multiply = 5
binds binary.Divide = 5
binds binary.Remainder = 5

-- words in brackets
abbrev pub parens : List Word → List Word → List Word
parens inner rest = punctuation punctuations.OpenParen ∷ (inner ++ punctuation punctuations.CloseParen ∷ rest)

abbrev pub braces : List Word → List Word → List Word
braces inner rest = punctuation punctuations.OpenBrace ∷ (inner ++ punctuation punctuations.CloseBrace ∷ rest)

abbrev pub print_step : Expr-F (List Word) (List Word) → List Word
print_step (Integer digits) = word (kinds.Integer digits) ∷ []
print_step (Text bytes) = word (kinds.Text bytes) ∷ []
print_step (Name n) = name n ∷ []
print_step (Parens e) = parens e []
print_step (StructLiteral n elements) = punctuation punctuations.Ampersand ∷ name n
    ∷ braces (separated punctuations.Comma elements) []
print_step (SyncLiteral n) = punctuation punctuations.Ampersand ∷ name sync ∷ punctuation punctuations.Dot ∷ name n
    ∷ braces [] []
print_step (SliceLiteral t items) = punctuation punctuations.OpenBracket ∷ punctuation punctuations.CloseBracket
    ∷ (print_type t ++ braces (separated punctuations.Comma items) [])
print_step EmptyLiteral = keyword keywords.Struct ∷ braces [] (braces [] [])
print_step (Make t) = name make ∷ parens (print_type t) []
print_step (MakeSized t e) = name make ∷ parens (print_type t ++ punctuation punctuations.Comma ∷ e) []
print_step (New n) = name new ∷ parens (name n ∷ []) []
print_step (NewSync n) = name new ∷ parens (name sync ∷ punctuation punctuations.Dot ∷ name n ∷ []) []
print_step (Selector e n) = e ++ punctuation punctuations.Dot ∷ name n ∷ []
print_step (Index e i) = e ++ punctuation punctuations.OpenBracket ∷ (i ++ punctuation punctuations.CloseBracket ∷ [])
print_step (Call f arguments) = f ++ parens (separated punctuations.Comma arguments) []
print_step (Unary o e) = punctuation (unary_punctuation o) ∷ e
print_step (Binary o a b) = a ++ punctuation (binary_punctuation o) ∷ b

abbrev pub print_element_step : Element-F (List Word) (List Word) → List Word
print_element_step x = name x.field ∷ punctuation punctuations.Colon ∷ x.value

-- the words of an expression
abbrev pub print_expr : Expr → List Word
print_expr = fold-Expr (List Word) (List Word) print_step print_element_step

abbrev pub print_element : Element → List Word
print_element = fold-Element (List Word) (List Word) print_step print_element_step

-- The form of an expression: how tightly its top binds (a unary operator 6, an expression that can be called or indexed
-- 7), whether an operand outside its brackets begins with `&`, and whether it is well formed.
pub record Form : Type 0 where
  pub top : ℕ
  pub ampersand : Bool
  pub good : Bool

abbrev pub all_good : List Form → Bool
all_good [] = true
all_good (f ∷ fs) = f.good && all_good fs

abbrev pub is_operand_name : List ℕ → Bool
is_operand_name n = not (bytes_eq n make) && not (bytes_eq n new)

-- the form of an operand that does not begin with `&`
abbrev pub operand : Bool → Form
operand good = record { top = 7; ampersand = false; good = good }

abbrev pub literal : Bool → Form
literal good = record { top = 7; ampersand = true; good = good }

-- An operand of a binary operator binds tighter than the operator; a left operand may also bind alike.
abbrev pub form_step : Expr-F Form Bool → Form
form_step (Integer digits) = operand true
form_step (Text bytes) = operand true
form_step (Name n) = operand (is_operand_name n)
form_step (Parens e) = operand e.good
form_step (StructLiteral n elements) = literal (list_all (λ good. good) elements)
form_step (SyncLiteral n) = literal true
form_step (SliceLiteral t items) = operand ((type_form t).good && all_good items)
form_step EmptyLiteral = operand true
form_step (Make t) = operand (type_form t).good
form_step (MakeSized t e) = operand ((type_form t).good && e.good)
form_step (New n) = operand true
form_step (NewSync n) = operand true
form_step (Selector e n) = record { top = 7; ampersand = e.ampersand; good = e.good && nat_le 7 e.top }
form_step (Index e i) = record { top = 7; ampersand = e.ampersand; good = (e.good && i.good) && nat_le 7 e.top }
form_step (Call f arguments) = record {
  top = 7;
  ampersand = f.ampersand;
  good = (f.good && all_good arguments)
      && nat_le 7 f.top;
}
form_step (Unary o e) = record { top = 6; ampersand = e.ampersand; good = e.good && nat_le 6 e.top }
form_step (Binary o a b) = record {
  top = binds o;
  ampersand = a.ampersand || b.ampersand;
  good = (a.good && b.good) && (nat_le (binds o) a.top && nat_lt (binds o) b.top);
}

abbrev pub element_form_step : Element-F Form Bool → Bool
element_form_step x = x.value.good

abbrev pub form : Expr → Form
form = fold-Expr Form Bool form_step element_form_step

abbrev pub element_form : Element → Bool
element_form = fold-Element Form Bool form_step element_form_step
