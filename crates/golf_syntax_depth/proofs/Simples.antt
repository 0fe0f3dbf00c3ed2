-- Simple statements, variables, headers and communications rise by their depths over their words.
-- For: Stmts, Files
-- By: cases of each kind
use Rattle.std.proofs.Common.{ℕ, max, List, [], ◌∷◌, ◌++◌, Option, Some, None, refl}
use Rattle.std.proofs.Math.Nat.{le-max_left, le-max_right}
use Rattle.golf_lex_tokens.specs.declared.token.Punctuation.TheVariants as punctuations
use Rattle.golf_lex_tokens.specs.declared.token.Keyword.TheVariants as keywords
use Rattle.golf_syntax_trees.specs.declared.expressions.Expr.{Expr}
use Rattle.golf_syntax_trees.specs.declared.statements.UpdateOperator.{UpdateOperator}
use Rattle.golf_syntax_trees.specs.declared.statements.UpdateOperator.TheVariants as update
use Rattle.golf_syntax_trees.specs.declared.statements.Simple.{Simple}
use Rattle.golf_syntax_trees.specs.declared.statements.SimpleKind.{SimpleKind}
use Rattle.golf_syntax_trees.specs.declared.statements.SimpleKind.TheVariants as s
use Rattle.golf_syntax_trees.specs.declared.statements.Var.{Var}
use Rattle.golf_syntax_trees.specs.declared.statements.VarContent.{VarContent}
use Rattle.golf_syntax_trees.specs.declared.statements.VarContent.TheVariants as content
use Rattle.golf_syntax_trees.specs.declared.statements.Header.{Header}
use Rattle.golf_syntax_trees.specs.declared.statements.Header.TheVariants as headers
use Rattle.golf_syntax_trees.specs.declared.statements.RangeNames.{RangeNames}
use Rattle.golf_syntax_trees.specs.declared.statements.RangeNames.TheVariants as names
use Rattle.golf_syntax_trees.specs.declared.statements.Communication.{Communication}
use Rattle.golf_syntax_trees.specs.declared.statements.Communication.TheVariants as comm
use Rattle.golf_syntax_trees.specs.Words.{Word, punctuation, keyword, name}
use Rattle.golf_syntax_trees.specs.Types.{print_type}
use Rattle.golf_syntax_trees.specs.Expressions.{print_expr}
use Rattle.golf_syntax_trees.specs.Simple.{update_punctuation, print_simple_kind, print_simple, print_content}
use Rattle.golf_syntax_trees.specs.Simple.{print_var, optional, print_range_names, print_header, print_comm}
use Rattle.golf_syntax_depth.specs.Depths.{of_option, depth, kind_depth, simple_depth, content_depth, header_depth}
use Rattle.golf_syntax_depth.specs.Depths.{comm_depth}
use Rattle.golf_syntax_depth.proofs.Peaks.{Rises, Plain, empty, one, lower, loose, joined, plain-before}
use Rattle.golf_syntax_depth.proofs.Peaks.{separator-before, on-line}
use Rattle.golf_syntax_depth.proofs.Types.{type-adds}
use Rattle.golf_syntax_depth.proofs.Exprs.{expr-adds}

pub expr-rises : (e : Expr) → Rises (print_expr e) (depth e)
expr-rises e = loose (expr-adds e)

update-plain : (o : UpdateOperator) → Plain (punctuation (update_punctuation o))
update-plain update.Add c cs = refl
update-plain update.Subtract c cs = refl
update-plain update.Multiply c cs = refl
update-plain update.Divide c cs = refl
update-plain update.Remainder c cs = refl

-- an expression, a word and an expression
two : (a : Expr) (w : Word) (b : Expr) → Plain w → Rises (print_expr a ++ w ∷ print_expr b) (max (depth a) (depth b))
two a w b plain = joined (print_expr a) (w ∷ print_expr b) (expr-rises a)
    (plain-before w (print_expr b) plain (expr-rises b))

-- an expression and a word
counted-up : (e : Expr) (w : Word) → Plain w → Rises (print_expr e ++ w ∷ []) (depth e)
counted-up e w plain = lower (depth e) (le-max_left (depth e) 1)
    (joined (print_expr e) (w ∷ []) (expr-rises e) (loose (one w plain)))

-- two names, a word, and a receive
received : (n ok : List ℕ) (w : Word) (c : Expr) → Plain w
    → Rises (name n ∷ punctuation punctuations.Comma ∷ name ok ∷ w ∷ punctuation punctuations.Arrow ∷ print_expr c)
    (depth c)
received n ok w c plain =
    plain-before (name n) (punctuation punctuations.Comma ∷ name ok ∷ w ∷ punctuation punctuations.Arrow ∷ print_expr c)
    (λ c cs. refl)
    (separator-before (punctuation punctuations.Comma) (name ok ∷ w ∷ punctuation punctuations.Arrow ∷ print_expr c)
    (λ c cs. refl)
    (plain-before (name ok) (w ∷ punctuation punctuations.Arrow ∷ print_expr c) (λ c cs. refl)
    (plain-before w (punctuation punctuations.Arrow ∷ print_expr c) plain
    (plain-before (punctuation punctuations.Arrow) (print_expr c) (λ c cs. refl) (expr-rises c)))))

pub kind-rises : (x : SimpleKind) → Rises (print_simple_kind x) (kind_depth x)
kind-rises (s.Expression e) = expr-rises e
kind-rises (s.Send c v) = two c (punctuation punctuations.Arrow) v (λ c cs. refl)
kind-rises (s.Increment e) = counted-up e (punctuation punctuations.Increment) (λ c cs. refl)
kind-rises (s.Decrement e) = counted-up e (punctuation punctuations.Decrement) (λ c cs. refl)
kind-rises (s.Assign p v) = two p (punctuation punctuations.Assign) v (λ c cs. refl)
kind-rises (s.Update p o v) = two p (punctuation (update_punctuation o)) v (update-plain o)
kind-rises (s.Define n v) =
    plain-before (name n) (punctuation punctuations.Define ∷ print_expr v) (λ c cs. refl)
    (plain-before (punctuation punctuations.Define) (print_expr v) (λ c cs. refl) (expr-rises v))
kind-rises (s.DefineReceived n ok c) = received n ok (punctuation punctuations.Define) c (λ c cs. refl)
kind-rises (s.AssignReceived n ok c) = received n ok (punctuation punctuations.Assign) c (λ c cs. refl)

pub simple-rises : (x : Simple) → Rises (print_simple x) (simple_depth x)
simple-rises x = on-line x.line (print_simple_kind x.kind) (kind-rises x.kind)

content-rises : (x : VarContent) → Rises (print_content x) (content_depth x)
content-rises (content.Zero t) = loose (type-adds t)
content-rises (content.Typed t v) =
    joined (print_type t) (punctuation punctuations.Assign ∷ print_expr v) (loose (type-adds t))
    (plain-before (punctuation punctuations.Assign) (print_expr v) (λ c cs. refl) (expr-rises v))
content-rises (content.Untyped v) = plain-before (punctuation punctuations.Assign) (print_expr v) (λ c cs. refl)
    (expr-rises v)

pub var-rises : (v : Var) → Rises (print_var v) (content_depth v.content)
var-rises v =
    on-line v.line (keyword keywords.Var ∷ name v.name ∷ print_content v.content)
    (plain-before (keyword keywords.Var) (name v.name ∷ print_content v.content) (λ c cs. refl)
    (plain-before (name v.name) (print_content v.content) (λ c cs. refl) (content-rises v.content)))

pub optional-rises : {A : Type 0} (print : A → List Word) (deep : A → ℕ) → ((x : A) → Rises (print x) (deep x))
    → (o : Option A) → Rises (optional print o) (of_option deep o)
optional-rises print deep rises None = empty
optional-rises print deep rises (Some x) = rises x

range-names : (n : RangeNames) → Rises (print_range_names n) 0
range-names names.Neither = empty
range-names (names.One n) =
    plain-before (name n) (punctuation punctuations.Define ∷ []) (λ c cs. refl)
    (plain-before (punctuation punctuations.Define) [] (λ c cs. refl) empty)
range-names (names.Two n m) =
    plain-before (name n) (punctuation punctuations.Comma ∷ name m ∷ punctuation punctuations.Define ∷ [])
    (λ c cs. refl)
    (separator-before (punctuation punctuations.Comma) (name m ∷ punctuation punctuations.Define ∷ []) (λ c cs. refl)
    (plain-before (name m) (punctuation punctuations.Define ∷ []) (λ c cs. refl)
    (plain-before (punctuation punctuations.Define) [] (λ c cs. refl) empty)))

pub header-rises : (h : Header) → Rises (print_header h) (header_depth h)
header-rises headers.Forever = empty
header-rises (headers.While e) = expr-rises e
header-rises (headers.Steps first test post) =
    joined (optional print_simple first) (punctuation punctuations.Semicolon
    ∷ (optional print_expr test ++ punctuation punctuations.Semicolon ∷ optional print_simple post))
    (optional-rises print_simple simple_depth simple-rises first)
    (separator-before (punctuation punctuations.Semicolon)
    (optional print_expr test ++ punctuation punctuations.Semicolon ∷ optional print_simple post) (λ c cs. refl)
    (joined (optional print_expr test) (punctuation punctuations.Semicolon ∷ optional print_simple post)
    (optional-rises print_expr depth expr-rises test)
    (separator-before (punctuation punctuations.Semicolon) (optional print_simple post) (λ c cs. refl)
    (optional-rises print_simple simple_depth simple-rises post))))
header-rises (headers.Range n e) =
    lower (depth e) (le-max_right 0 (depth e))
    (joined (print_range_names n) (keyword keywords.Range ∷ print_expr e) (range-names n)
    (plain-before (keyword keywords.Range) (print_expr e) (λ c cs. refl) (expr-rises e)))

-- a name, a word, and a receive
taken : (n : List ℕ) (w : Word) (c : Expr) → Plain w
    → Rises (name n ∷ w ∷ punctuation punctuations.Arrow ∷ print_expr c) (depth c)
taken n w c plain =
    plain-before (name n) (w ∷ punctuation punctuations.Arrow ∷ print_expr c) (λ c cs. refl)
    (plain-before w (punctuation punctuations.Arrow ∷ print_expr c) plain
    (plain-before (punctuation punctuations.Arrow) (print_expr c) (λ c cs. refl) (expr-rises c)))

pub comm-rises : (x : Communication) → Rises (print_comm x) (comm_depth x)
comm-rises (comm.Send c v) = two c (punctuation punctuations.Arrow) v (λ c cs. refl)
comm-rises (comm.Receive c) = plain-before (punctuation punctuations.Arrow) (print_expr c) (λ c cs. refl) (expr-rises c)
comm-rises (comm.Define n c) = taken n (punctuation punctuations.Define) c (λ c cs. refl)
comm-rises (comm.Assign n c) = taken n (punctuation punctuations.Assign) c (λ c cs. refl)
comm-rises (comm.DefineReceived n ok c) = received n ok (punctuation punctuations.Define) c (λ c cs. refl)
