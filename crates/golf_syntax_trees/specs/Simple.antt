-- The words that simple statements, variables, headers and communications print, and which are well formed.
use Rattle.std.specs.Prelude.{Bool, true, false, not, ◌&&◌, ◌||◌, nat_le, List, [], ◌∷◌, ◌++◌, Option, Some, None}
use Rattle.golf_lex_tokens.specs.declared.token.Punctuation.{Punctuation}
use Rattle.golf_lex_tokens.specs.declared.token.Punctuation.TheVariants as punctuations
use Rattle.golf_lex_tokens.specs.declared.token.Keyword.TheVariants as keywords
use Rattle.golf_syntax_trees.specs.declared.expressions.Expr.{Expr}
use Rattle.golf_syntax_trees.specs.declared.statements.UpdateOperator.{UpdateOperator}
use Rattle.golf_syntax_trees.specs.declared.statements.UpdateOperator.TheVariants as update
use Rattle.golf_syntax_trees.specs.declared.statements.Simple.{Simple}
use Rattle.golf_syntax_trees.specs.declared.statements.SimpleKind.{SimpleKind}
use Rattle.golf_syntax_trees.specs.declared.statements.SimpleKind.TheVariants as s
use Rattle.golf_syntax_trees.specs.declared.statements.Var.{Var}
use Rattle.golf_syntax_trees.specs.declared.statements.VarContent.{VarContent}
use Rattle.golf_syntax_trees.specs.declared.statements.VarContent.TheVariants as content
use Rattle.golf_syntax_trees.specs.declared.statements.Header.{Header}
use Rattle.golf_syntax_trees.specs.declared.statements.Header.TheVariants as headers
use Rattle.golf_syntax_trees.specs.declared.statements.RangeNames.{RangeNames}
use Rattle.golf_syntax_trees.specs.declared.statements.RangeNames.TheVariants as names
use Rattle.golf_syntax_trees.specs.declared.statements.Communication.{Communication}
use Rattle.golf_syntax_trees.specs.declared.statements.Communication.TheVariants as comm
use Rattle.golf_syntax_trees.specs.Words.{Word, punctuation, keyword, name, on_line}
use Rattle.golf_syntax_trees.specs.Types.{print_type, type_form}
use Rattle.golf_syntax_trees.specs.Expressions.{print_expr, form}

abbrev pub update_punctuation : UpdateOperator → Punctuation
update_punctuation update.Add = punctuations.PlusAssign
update_punctuation update.Subtract = punctuations.MinusAssign
update_punctuation update.Multiply = punctuations.StarAssign
update_punctuation update.Divide = punctuations.SlashAssign
update_punctuation update.Remainder = punctuations.PercentAssign

abbrev pub print_simple_kind : SimpleKind → List Word
print_simple_kind (s.Expression e) = print_expr e
print_simple_kind (s.Send c v) = print_expr c ++ punctuation punctuations.Arrow ∷ print_expr v
print_simple_kind (s.Increment e) = print_expr e ++ punctuation punctuations.Increment ∷ []
print_simple_kind (s.Decrement e) = print_expr e ++ punctuation punctuations.Decrement ∷ []
print_simple_kind (s.Assign p v) = print_expr p ++ punctuation punctuations.Assign ∷ print_expr v
print_simple_kind (s.Update p o v) = print_expr p ++ punctuation (update_punctuation o) ∷ print_expr v
print_simple_kind (s.Define n v) = name n ∷ punctuation punctuations.Define ∷ print_expr v
print_simple_kind (s.DefineReceived n ok c) = name n ∷ punctuation punctuations.Comma ∷ name ok
    ∷ punctuation punctuations.Define ∷ punctuation punctuations.Arrow ∷ print_expr c
print_simple_kind (s.AssignReceived n ok c) = name n ∷ punctuation punctuations.Comma ∷ name ok
    ∷ punctuation punctuations.Assign ∷ punctuation punctuations.Arrow ∷ print_expr c

-- the words of a simple statement
abbrev pub print_simple : Simple → List Word
print_simple x = on_line x.line (print_simple_kind x.kind)

-- The form of a simple statement: whether an operand outside its brackets begins with `&`, whether it has a `:=`, and
-- whether it is well formed.
pub record SimpleForm : Type 0 where
  pub ampersand : Bool
  pub defines : Bool
  pub good : Bool

abbrev pub one : Bool → Expr → SimpleForm
one d e = record { ampersand = (form e).ampersand; defines = d; good = (form e).good }

abbrev pub two : Expr → Expr → SimpleForm
two a b = record {
  ampersand = (form a).ampersand || (form b).ampersand;
  defines = false;
  good = (form a).good
      && (form b).good;
}

-- a receive takes a unary expression
abbrev pub received : Bool → Expr → SimpleForm
received d c = record { ampersand = (form c).ampersand; defines = d; good = (form c).good && nat_le 6 (form c).top }

abbrev pub simple_form : SimpleKind → SimpleForm
simple_form (s.Expression e) = one false e
simple_form (s.Send c v) = two c v
simple_form (s.Increment e) = one false e
simple_form (s.Decrement e) = one false e
simple_form (s.Assign p v) = two p v
simple_form (s.Update p o v) = two p v
simple_form (s.Define n v) = one true v
simple_form (s.DefineReceived n ok c) = received true c
simple_form (s.AssignReceived n ok c) = received false c

abbrev pub print_content : VarContent → List Word
print_content (content.Zero t) = print_type t
print_content (content.Typed t v) = print_type t ++ punctuation punctuations.Assign ∷ print_expr v
print_content (content.Untyped v) = punctuation punctuations.Assign ∷ print_expr v

-- the words of a variable
abbrev pub print_var : Var → List Word
print_var v = on_line v.line (keyword keywords.Var ∷ name v.name ∷ print_content v.content)

abbrev pub content_good : VarContent → Bool
content_good (content.Zero t) = (type_form t).good
content_good (content.Typed t v) = (type_form t).good && (form v).good
content_good (content.Untyped v) = (form v).good

-- the words of an optional part
abbrev pub optional : {A : Type 0} → (A → List Word) → Option A → List Word
optional print None = []
optional print (Some x) = print x

abbrev pub print_range_names : RangeNames → List Word
print_range_names names.Neither = []
print_range_names (names.One n) = name n ∷ punctuation punctuations.Define ∷ []
print_range_names (names.Two n m) = name n ∷ punctuation punctuations.Comma ∷ name m ∷ punctuation punctuations.Define
    ∷ []

abbrev pub print_header : Header → List Word
print_header headers.Forever = []
print_header (headers.While e) = print_expr e
print_header (headers.Steps first test post) =
    optional print_simple first ++ punctuation punctuations.Semicolon
    ∷ (optional print_expr test ++ punctuation punctuations.Semicolon ∷ optional print_simple post)
print_header (headers.Range n e) = print_range_names n ++ keyword keywords.Range ∷ print_expr e

-- In a header no operand outside brackets begins with `&`.
abbrev pub header_expr : Expr → Bool
header_expr e = (form e).good && not (form e).ampersand

abbrev pub header_simple : Simple → Bool
header_simple x = (simple_form x.kind).good && not (simple_form x.kind).ampersand

-- A post statement has no `:=`.
abbrev pub post_simple : Simple → Bool
post_simple x = header_simple x && not (simple_form x.kind).defines

abbrev pub all_of : {A : Type 0} → (A → Bool) → Option A → Bool
all_of good None = true
all_of good (Some x) = good x

abbrev pub header_good : Header → Bool
header_good headers.Forever = true
header_good (headers.While e) = header_expr e
header_good (headers.Steps first test post) = all_of header_simple first
    && (all_of header_expr test && all_of post_simple post)
header_good (headers.Range n e) = header_expr e

abbrev pub print_comm : Communication → List Word
print_comm (comm.Send c v) = print_expr c ++ punctuation punctuations.Arrow ∷ print_expr v
print_comm (comm.Receive c) = punctuation punctuations.Arrow ∷ print_expr c
print_comm (comm.Define n c) = name n ∷ punctuation punctuations.Define ∷ punctuation punctuations.Arrow ∷ print_expr c
print_comm (comm.Assign n c) = name n ∷ punctuation punctuations.Assign ∷ punctuation punctuations.Arrow ∷ print_expr c
print_comm (comm.DefineReceived n ok c) = name n ∷ punctuation punctuations.Comma ∷ name ok
    ∷ punctuation punctuations.Define ∷ punctuation punctuations.Arrow ∷ print_expr c

abbrev pub comm_good : Communication → Bool
comm_good (comm.Send c v) = (form c).good && (form v).good
comm_good (comm.Receive c) = (form c).good && nat_le 6 (form c).top
comm_good (comm.Define n c) = (form c).good && nat_le 6 (form c).top
comm_good (comm.Assign n c) = (form c).good && nat_le 6 (form c).top
comm_good (comm.DefineReceived n ok c) = (form c).good && nat_le 6 (form c).top
