-- What types, expressions, simple statements, headers and communications print has its brackets in pairs.
-- For: `print_type`, golf_syntax_trees/specs/Types.antt; `print_expr`, golf_syntax_trees/specs/Expressions.antt
-- By: induction over the tree of a type, and of an expression; for the others, cases of their kind
use Rattle.std.proofs.Common.{◌≡◌, true, false, List, [], ◌∷◌, map, refl, sym, subst}
use Rattle.std.specs.Prelude.{Option, Some, None}
use Rattle.golf_syntax_trees.specs.declared.types.TypeExpr.{TypeExpr, roll-TypeExpr}
use Rattle.golf_syntax_trees.specs.declared.types.TypeExpr.TheOpen as T
use Rattle.golf_syntax_trees.specs.declared.types.TypeExpr.TheFolds.{fold-roll-TypeExpr, map-TypeExpr}
use Rattle.golf_syntax_trees.proofs.TypeInduction.{TypeLayer, bare_type, every-type}
use Rattle.golf_syntax_trees.specs.declared.expressions.UnaryOperator.{UnaryOperator}
use Rattle.golf_syntax_trees.specs.declared.expressions.UnaryOperator.TheVariants as unary
use Rattle.golf_syntax_trees.specs.declared.expressions.BinaryOperator.{BinaryOperator}
use Rattle.golf_syntax_trees.specs.declared.expressions.BinaryOperator.TheVariants as binary
use Rattle.golf_syntax_trees.specs.declared.expressions.Expr.{Expr, roll-Expr}
use Rattle.golf_syntax_trees.specs.declared.expressions.Expr.TheOpen as F
use Rattle.golf_syntax_trees.specs.declared.expressions.Expr.TheFolds.{fold-roll-Expr, map-Expr}
use Rattle.golf_syntax_trees.proofs.ExpressionInduction.{KnownElement, bare_elements, ExprLayer, bare_expr, every-expr}
use Rattle.golf_syntax_trees.proofs.ExpressionInduction.{fold-element}
use Rattle.golf_syntax_trees.specs.declared.expressions.Element.{Element}
use Rattle.golf_syntax_trees.specs.declared.statements.UpdateOperator.{UpdateOperator}
use Rattle.golf_syntax_trees.specs.declared.statements.UpdateOperator.TheVariants as update
use Rattle.golf_syntax_trees.specs.declared.statements.Simple.{Simple}
use Rattle.golf_syntax_trees.specs.declared.statements.SimpleKind.{SimpleKind}
use Rattle.golf_syntax_trees.specs.declared.statements.SimpleKind.TheVariants as s
use Rattle.golf_syntax_trees.specs.declared.statements.Var.{Var}
use Rattle.golf_syntax_trees.specs.declared.statements.VarContent.{VarContent}
use Rattle.golf_syntax_trees.specs.declared.statements.VarContent.TheVariants as content
use Rattle.golf_syntax_trees.specs.declared.statements.Header.{Header}
use Rattle.golf_syntax_trees.specs.declared.statements.Header.TheVariants as headers
use Rattle.golf_syntax_trees.specs.declared.statements.RangeNames.{RangeNames}
use Rattle.golf_syntax_trees.specs.declared.statements.RangeNames.TheVariants as names
use Rattle.golf_syntax_trees.specs.declared.statements.Communication.{Communication}
use Rattle.golf_syntax_trees.specs.declared.statements.Communication.TheVariants as comm
use Rattle.golf_syntax_trees.specs.Words.{Word}
use Rattle.golf_syntax_trees.specs.Types.{print_type_step, print_type}
use Rattle.golf_syntax_trees.specs.Expressions.{unary_punctuation, binary_punctuation, print_step, print_element_step}
use Rattle.golf_syntax_trees.specs.Expressions.{print_expr, print_element}
use Rattle.golf_syntax_trees.specs.Simple.{update_punctuation, print_simple_kind, print_simple, print_content}
use Rattle.golf_syntax_trees.specs.Simple.{print_var, optional, print_range_names, print_header, print_comm}
use Rattle.golf_syntax_segments.proofs.Nested.{Nested, none, semicolon, is_ordinary_punctuation, append, weaken}
use Rattle.golf_syntax_segments.proofs.Nested.{on-line, one, parens, braces, brackets, Each, each-known, commas}

abbrev TypeIs : TypeExpr → Type 0
TypeIs t = Nested false (print_type t)

type-at : (y : TypeLayer TypeIs) → Nested false
    (print_type_step (map-TypeExpr TypeExpr (List Word) print_type (bare_type TypeIs y)))
type-at (T.Named n) = one false _ _ refl (none false)
type-at (T.Pointer n) = one false _ _ refl (one false _ _ refl (none false))
type-at (T.SyncPointer n) = one false _ _ refl
    (one false _ _ refl (one false _ _ refl (one false _ _ refl (none false))))
type-at (T.Slice t) = brackets false [] _ (none true) t.1
type-at (T.Chan t) = one false _ _ refl t.1
type-at (T.SendChan t) = one false _ _ refl (one false _ _ refl t.1)
type-at (T.ReceiveChan t) = one false _ _ refl (one false _ _ refl t.1)
type-at T.EmptyStruct = one false _ _ refl (braces false [] [] (none true) (none false))

type-rolled : (y : TypeLayer TypeIs) → TypeIs (roll-TypeExpr (bare_type TypeIs y))
type-rolled y = subst (Nested false) (sym (fold-roll-TypeExpr (List Word) print_type_step (bare_type TypeIs y)))
    (type-at y)

pub type-nested : (t : TypeExpr) → Nested false (print_type t)
type-nested = every-type TypeIs type-rolled

ordinary-unary : (o : UnaryOperator) → is_ordinary_punctuation (unary_punctuation o) ≡ true
ordinary-unary unary.Negate = refl
ordinary-unary _ = refl

ordinary-binary : (o : BinaryOperator) → is_ordinary_punctuation (binary_punctuation o) ≡ true
ordinary-binary binary.Or = refl
ordinary-binary _ = refl

abbrev ExprIs : Expr → Type 0
ExprIs e = Nested false (print_expr e)

element-nested : (x : KnownElement ExprIs) → Nested false (print_element x.0)
element-nested x = subst (Nested false) (sym (fold-element (List Word) (List Word) print_step print_element_step x.0))
    (one false _ _ refl (one false _ _ refl x.1))

each-element : (xs : List (KnownElement ExprIs)) → Each (map print_element (bare_elements ExprIs xs))
each-element [] = tt
each-element (x ∷ xs) = (weaken false _ (element-nested x), each-element xs)

expr-at : (y : ExprLayer ExprIs) → Nested false
    (print_step (map-Expr Expr Element (List Word) (List Word) print_expr print_element (bare_expr ExprIs y)))
expr-at (F.Integer digits) = one false _ _ refl (none false)
expr-at (F.Text bytes) = one false _ _ refl (none false)
expr-at (F.Name n) = one false _ _ refl (none false)
expr-at (F.Parens a) = parens false _ _ (weaken false _ a.1) (none false)
expr-at (F.StructLiteral n xs) = one false _ _ refl
    (one false _ _ refl (braces false _ _ (commas _ (each-element xs)) (none false)))
expr-at (F.SyncLiteral n) = one false _ _ refl
    (one false _ _ refl (one false _ _ refl (one false _ _ refl (braces false [] [] (none true) (none false)))))
expr-at (F.SliceLiteral t xs) = brackets false [] _ (none true)
    (append false (print_type t) _ (type-nested t)
    (braces false _ _ (commas _ (each-known Expr false print_expr xs)) (none false)))
expr-at F.EmptyLiteral = one false _ _ refl
    (braces false [] _ (none true) (braces false [] [] (none true) (none false)))
expr-at (F.Make t) = one false _ _ refl (parens false _ _ (weaken false _ (type-nested t)) (none false))
expr-at (F.MakeSized t a) = one false _ _ refl
    (parens false _ _ (append true (print_type t) _ (weaken false _ (type-nested t))
    (one true _ _ refl (weaken false _ a.1))) (none false))
expr-at (F.New n) = one false _ _ refl (parens false _ _ (one true _ _ refl (none true)) (none false))
expr-at (F.NewSync n) = one false _ _ refl
    (parens false _ _ (one true _ _ refl (one true _ _ refl (one true _ _ refl (none true)))) (none false))
expr-at (F.Selector a n) = append false _ _ a.1 (one false _ _ refl (one false _ _ refl (none false)))
expr-at (F.Index a b) = append false _ _ a.1 (brackets false _ [] (weaken false _ b.1) (none false))
expr-at (F.Call a xs) = append false _ _ a.1
    (parens false _ _ (commas _ (each-known Expr false print_expr xs)) (none false))
expr-at (F.Unary o a) = one false _ _ (ordinary-unary o) a.1
expr-at (F.Binary o a b) = append false _ _ a.1 (one false _ _ (ordinary-binary o) b.1)

expr-rolled : (y : ExprLayer ExprIs) → ExprIs (roll-Expr (bare_expr ExprIs y))
expr-rolled y = subst (Nested false) (sym
    (fold-roll-Expr (List Word) (List Word) print_step print_element_step (bare_expr ExprIs y))) (expr-at y)

pub expr-nested : (e : Expr) → Nested false (print_expr e)
expr-nested = every-expr ExprIs expr-rolled

ordinary-update : (o : UpdateOperator) → is_ordinary_punctuation (update_punctuation o) ≡ true
ordinary-update update.Add = refl
ordinary-update _ = refl

kind-nested : (k : SimpleKind) → Nested false (print_simple_kind k)
kind-nested (s.Expression e) = expr-nested e
kind-nested (s.Send c v) = append false _ _ (expr-nested c) (one false _ _ refl (expr-nested v))
kind-nested (s.Increment e) = append false _ _ (expr-nested e) (one false _ _ refl (none false))
kind-nested (s.Decrement e) = append false _ _ (expr-nested e) (one false _ _ refl (none false))
kind-nested (s.Assign p v) = append false _ _ (expr-nested p) (one false _ _ refl (expr-nested v))
kind-nested (s.Update p o v) = append false _ _ (expr-nested p) (one false _ _ (ordinary-update o) (expr-nested v))
kind-nested (s.Define n v) = one false _ _ refl (one false _ _ refl (expr-nested v))
kind-nested (s.DefineReceived n ok c) = one false _ _ refl
    (one false _ _ refl (one false _ _ refl (one false _ _ refl (one false _ _ refl (expr-nested c)))))
kind-nested (s.AssignReceived n ok c) = one false _ _ refl
    (one false _ _ refl (one false _ _ refl (one false _ _ refl (one false _ _ refl (expr-nested c)))))

pub simple-nested : (x : Simple) → Nested false (print_simple x)
simple-nested x = on-line false x.line _ (kind-nested x.kind)

content-nested : (c : VarContent) → Nested false (print_content c)
content-nested (content.Zero t) = type-nested t
content-nested (content.Typed t v) = append false _ _ (type-nested t) (one false _ _ refl (expr-nested v))
content-nested (content.Untyped v) = one false _ _ refl (expr-nested v)

pub var-nested : (v : Var) → Nested false (print_var v)
var-nested v = on-line false v.line _ (one false _ _ refl (one false _ _ refl (content-nested v.content)))

pub optional-nested : (A : Type 0) (print : A → List Word) → ((x : A) → Nested true (print x)) → (o : Option A)
    → Nested true (optional print o)
optional-nested A print f None = none true
optional-nested A print f (Some x) = f x

names-nested : (n : RangeNames) → Nested true (print_range_names n)
names-nested names.Neither = none true
names-nested (names.One n) = one true _ _ refl (one true _ _ refl (none true))
names-nested (names.Two n m) = one true _ _ refl (one true _ _ refl (one true _ _ refl (one true _ _ refl (none true))))

simple-inside : (x : Simple) → Nested true (print_simple x)
simple-inside x = weaken false _ (simple-nested x)

pub expr-inside : (e : Expr) → Nested true (print_expr e)
expr-inside e = weaken false _ (expr-nested e)

pub header-nested : (h : Header) → Nested true (print_header h)
header-nested headers.Forever = none true
header-nested (headers.While e) = expr-inside e
header-nested (headers.Steps first test post) =
    append true _ _ (optional-nested Simple print_simple simple-inside first)
    (semicolon None _ (append true _ _ (optional-nested Expr print_expr expr-inside test)
    (semicolon None _ (optional-nested Simple print_simple simple-inside post))))
header-nested (headers.Range n e) = append true _ _ (names-nested n) (one true _ _ refl (expr-inside e))

comm-first : (c : Communication) → Nested false (print_comm c)
comm-first (comm.Send c v) = append false _ _ (expr-nested c) (one false _ _ refl (expr-nested v))
comm-first (comm.Receive c) = one false _ _ refl (expr-nested c)
comm-first (comm.Define n c) = one false _ _ refl (one false _ _ refl (one false _ _ refl (expr-nested c)))
comm-first (comm.Assign n c) = one false _ _ refl (one false _ _ refl (one false _ _ refl (expr-nested c)))
comm-first (comm.DefineReceived n ok c) =
    one false _ _ refl (one false _ _ refl
    (one false _ _ refl (one false _ _ refl (one false _ _ refl (expr-nested c)))))

pub comm-nested : (c : Communication) → Nested true (print_comm c)
comm-nested c = weaken false _ (comm-first c)
