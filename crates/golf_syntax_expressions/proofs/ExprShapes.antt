-- What each kind of expression prints, and its form; and the induction over expressions that this gives.
-- For: `print_expr` and `form`, golf_syntax_trees/specs/Expressions.antt.
-- By: computing; `each` is induction over the tree of an expression.
use Rattle.std.proofs.Common.{◌≡◌, ℕ, Bool, List, map, ap, sym, subst, ◌∙◌}
use Rattle.golf_syntax_trees.specs.declared.types.TypeExpr.{TypeExpr}
use Rattle.golf_syntax_trees.specs.declared.expressions.UnaryOperator.{UnaryOperator}
use Rattle.golf_syntax_trees.specs.declared.expressions.BinaryOperator.{BinaryOperator}
use Rattle.golf_syntax_trees.specs.declared.expressions.Expr.{Expr, roll-Expr}
use Rattle.golf_syntax_trees.specs.declared.expressions.Expr.TheVariants.{Integer, rolls-Integer, Text, rolls-Text}
use Rattle.golf_syntax_trees.specs.declared.expressions.Expr.TheVariants.{Name, rolls-Name, Parens, rolls-Parens}
use Rattle.golf_syntax_trees.specs.declared.expressions.Expr.TheVariants.{StructLiteral, rolls-StructLiteral}
use Rattle.golf_syntax_trees.specs.declared.expressions.Expr.TheVariants.{SyncLiteral, rolls-SyncLiteral, SliceLiteral}
use Rattle.golf_syntax_trees.specs.declared.expressions.Expr.TheVariants.{rolls-SliceLiteral, EmptyLiteral}
use Rattle.golf_syntax_trees.specs.declared.expressions.Expr.TheVariants.{rolls-EmptyLiteral, Make, rolls-Make}
use Rattle.golf_syntax_trees.specs.declared.expressions.Expr.TheVariants.{MakeSized, rolls-MakeSized, New, rolls-New}
use Rattle.golf_syntax_trees.specs.declared.expressions.Expr.TheVariants.{NewSync, rolls-NewSync, Selector}
use Rattle.golf_syntax_trees.specs.declared.expressions.Expr.TheVariants.{rolls-Selector, Index, rolls-Index, Call}
use Rattle.golf_syntax_trees.specs.declared.expressions.Expr.TheVariants.{rolls-Call, Unary, rolls-Unary, Binary}
use Rattle.golf_syntax_trees.specs.declared.expressions.Expr.TheVariants.{rolls-Binary}
use Rattle.golf_syntax_trees.specs.declared.expressions.Expr.TheOpen.{Expr-F}
use Rattle.golf_syntax_trees.specs.declared.expressions.Expr.TheOpen as F
use Rattle.golf_syntax_trees.specs.declared.expressions.Expr.TheFolds.{fold-roll-Expr, fold-roll-Element, ind-Expr}
use Rattle.golf_syntax_trees.specs.declared.expressions.Expr.TheFolds.{map-Expr}
use Rattle.golf_syntax_trees.specs.declared.expressions.Element.{Element, roll-Element}
use Rattle.golf_syntax_trees.specs.Words.{Word}
use Rattle.golf_syntax_trees.specs.Expressions.{print_step, print_element_step, print_expr, print_element, Form}
use Rattle.golf_syntax_trees.specs.Expressions.{form_step, element_form_step, form, element_form}
use Rattle.golf_syntax_expressions.specs.ExpressionReader.{element}

pub print-Integer : (digits : List ℕ) → print_expr (Integer digits) ≡ print_step (F.Integer digits)
print-Integer digits = ap print_expr (sym (rolls-Integer digits))
    ∙ fold-roll-Expr (List Word) (List Word) print_step print_element_step (F.Integer digits)

pub form-Integer : (digits : List ℕ) → form (Integer digits) ≡ form_step (F.Integer digits)
form-Integer digits = ap form (sym (rolls-Integer digits))
    ∙ fold-roll-Expr Form Bool form_step element_form_step (F.Integer digits)

pub print-Text : (bytes : List ℕ) → print_expr (Text bytes) ≡ print_step (F.Text bytes)
print-Text bytes = ap print_expr (sym (rolls-Text bytes))
    ∙ fold-roll-Expr (List Word) (List Word) print_step print_element_step (F.Text bytes)

pub form-Text : (bytes : List ℕ) → form (Text bytes) ≡ form_step (F.Text bytes)
form-Text bytes = ap form (sym (rolls-Text bytes)) ∙ fold-roll-Expr Form Bool form_step element_form_step (F.Text bytes)

pub print-Name : (n : List ℕ) → print_expr (Name n) ≡ print_step (F.Name n)
print-Name n = ap print_expr (sym (rolls-Name n))
    ∙ fold-roll-Expr (List Word) (List Word) print_step print_element_step (F.Name n)

pub form-Name : (n : List ℕ) → form (Name n) ≡ form_step (F.Name n)
form-Name n = ap form (sym (rolls-Name n)) ∙ fold-roll-Expr Form Bool form_step element_form_step (F.Name n)

pub print-Parens : (a : Expr) → print_expr (Parens a) ≡ print_step (F.Parens (print_expr a))
print-Parens a = ap print_expr (sym (rolls-Parens a))
    ∙ fold-roll-Expr (List Word) (List Word) print_step print_element_step (F.Parens a)

pub form-Parens : (a : Expr) → form (Parens a) ≡ form_step (F.Parens (form a))
form-Parens a = ap form (sym (rolls-Parens a)) ∙ fold-roll-Expr Form Bool form_step element_form_step (F.Parens a)

pub print-StructLiteral : (n : List ℕ) (xs : List Element)
    → print_expr (StructLiteral n xs) ≡ print_step (F.StructLiteral n (map print_element xs))
print-StructLiteral n xs = ap print_expr (sym (rolls-StructLiteral n xs))
    ∙ fold-roll-Expr (List Word) (List Word) print_step print_element_step (F.StructLiteral n xs)

pub form-StructLiteral : (n : List ℕ) (xs : List Element)
    → form (StructLiteral n xs) ≡ form_step (F.StructLiteral n (map element_form xs))
form-StructLiteral n xs = ap form (sym (rolls-StructLiteral n xs))
    ∙ fold-roll-Expr Form Bool form_step element_form_step (F.StructLiteral n xs)

pub print-SyncLiteral : (n : List ℕ) → print_expr (SyncLiteral n) ≡ print_step (F.SyncLiteral n)
print-SyncLiteral n = ap print_expr (sym (rolls-SyncLiteral n))
    ∙ fold-roll-Expr (List Word) (List Word) print_step print_element_step (F.SyncLiteral n)

pub form-SyncLiteral : (n : List ℕ) → form (SyncLiteral n) ≡ form_step (F.SyncLiteral n)
form-SyncLiteral n = ap form (sym (rolls-SyncLiteral n))
    ∙ fold-roll-Expr Form Bool form_step element_form_step (F.SyncLiteral n)

pub print-SliceLiteral : (t : TypeExpr) (xs : List Expr)
    → print_expr (SliceLiteral t xs) ≡ print_step (F.SliceLiteral t (map print_expr xs))
print-SliceLiteral t xs = ap print_expr (sym (rolls-SliceLiteral t xs))
    ∙ fold-roll-Expr (List Word) (List Word) print_step print_element_step (F.SliceLiteral t xs)

pub form-SliceLiteral : (t : TypeExpr) (xs : List Expr)
    → form (SliceLiteral t xs) ≡ form_step (F.SliceLiteral t (map form xs))
form-SliceLiteral t xs = ap form (sym (rolls-SliceLiteral t xs))
    ∙ fold-roll-Expr Form Bool form_step element_form_step (F.SliceLiteral t xs)

pub print-EmptyLiteral : print_expr EmptyLiteral ≡ print_step F.EmptyLiteral
print-EmptyLiteral = ap print_expr (sym rolls-EmptyLiteral)
    ∙ fold-roll-Expr (List Word) (List Word) print_step print_element_step F.EmptyLiteral

pub form-EmptyLiteral : form EmptyLiteral ≡ form_step F.EmptyLiteral
form-EmptyLiteral = ap form (sym rolls-EmptyLiteral)
    ∙ fold-roll-Expr Form Bool form_step element_form_step F.EmptyLiteral

pub print-Make : (t : TypeExpr) → print_expr (Make t) ≡ print_step (F.Make t)
print-Make t = ap print_expr (sym (rolls-Make t))
    ∙ fold-roll-Expr (List Word) (List Word) print_step print_element_step (F.Make t)

pub form-Make : (t : TypeExpr) → form (Make t) ≡ form_step (F.Make t)
form-Make t = ap form (sym (rolls-Make t)) ∙ fold-roll-Expr Form Bool form_step element_form_step (F.Make t)

pub print-MakeSized : (t : TypeExpr) (a : Expr) → print_expr (MakeSized t a) ≡ print_step (F.MakeSized t (print_expr a))
print-MakeSized t a = ap print_expr (sym (rolls-MakeSized t a))
    ∙ fold-roll-Expr (List Word) (List Word) print_step print_element_step (F.MakeSized t a)

pub form-MakeSized : (t : TypeExpr) (a : Expr) → form (MakeSized t a) ≡ form_step (F.MakeSized t (form a))
form-MakeSized t a = ap form (sym (rolls-MakeSized t a))
    ∙ fold-roll-Expr Form Bool form_step element_form_step (F.MakeSized t a)

pub print-New : (n : List ℕ) → print_expr (New n) ≡ print_step (F.New n)
print-New n = ap print_expr (sym (rolls-New n))
    ∙ fold-roll-Expr (List Word) (List Word) print_step print_element_step (F.New n)

pub form-New : (n : List ℕ) → form (New n) ≡ form_step (F.New n)
form-New n = ap form (sym (rolls-New n)) ∙ fold-roll-Expr Form Bool form_step element_form_step (F.New n)

pub print-NewSync : (n : List ℕ) → print_expr (NewSync n) ≡ print_step (F.NewSync n)
print-NewSync n = ap print_expr (sym (rolls-NewSync n))
    ∙ fold-roll-Expr (List Word) (List Word) print_step print_element_step (F.NewSync n)

pub form-NewSync : (n : List ℕ) → form (NewSync n) ≡ form_step (F.NewSync n)
form-NewSync n = ap form (sym (rolls-NewSync n)) ∙ fold-roll-Expr Form Bool form_step element_form_step (F.NewSync n)

pub print-Selector : (a : Expr) (n : List ℕ) → print_expr (Selector a n) ≡ print_step (F.Selector (print_expr a) n)
print-Selector a n = ap print_expr (sym (rolls-Selector a n))
    ∙ fold-roll-Expr (List Word) (List Word) print_step print_element_step (F.Selector a n)

pub form-Selector : (a : Expr) (n : List ℕ) → form (Selector a n) ≡ form_step (F.Selector (form a) n)
form-Selector a n = ap form (sym (rolls-Selector a n))
    ∙ fold-roll-Expr Form Bool form_step element_form_step (F.Selector a n)

pub print-Index : (a : Expr) (b : Expr) → print_expr (Index a b) ≡ print_step (F.Index (print_expr a) (print_expr b))
print-Index a b = ap print_expr (sym (rolls-Index a b))
    ∙ fold-roll-Expr (List Word) (List Word) print_step print_element_step (F.Index a b)

pub form-Index : (a : Expr) (b : Expr) → form (Index a b) ≡ form_step (F.Index (form a) (form b))
form-Index a b = ap form (sym (rolls-Index a b)) ∙ fold-roll-Expr Form Bool form_step element_form_step (F.Index a b)

pub print-Call : (a : Expr) (xs : List Expr)
    → print_expr (Call a xs) ≡ print_step (F.Call (print_expr a) (map print_expr xs))
print-Call a xs = ap print_expr (sym (rolls-Call a xs))
    ∙ fold-roll-Expr (List Word) (List Word) print_step print_element_step (F.Call a xs)

pub form-Call : (a : Expr) (xs : List Expr) → form (Call a xs) ≡ form_step (F.Call (form a) (map form xs))
form-Call a xs = ap form (sym (rolls-Call a xs)) ∙ fold-roll-Expr Form Bool form_step element_form_step (F.Call a xs)

pub print-Unary : (o : UnaryOperator) (a : Expr) → print_expr (Unary o a) ≡ print_step (F.Unary o (print_expr a))
print-Unary o a = ap print_expr (sym (rolls-Unary o a))
    ∙ fold-roll-Expr (List Word) (List Word) print_step print_element_step (F.Unary o a)

pub form-Unary : (o : UnaryOperator) (a : Expr) → form (Unary o a) ≡ form_step (F.Unary o (form a))
form-Unary o a = ap form (sym (rolls-Unary o a)) ∙ fold-roll-Expr Form Bool form_step element_form_step (F.Unary o a)

pub print-Binary : (o : BinaryOperator) (a : Expr) (b : Expr)
    → print_expr (Binary o a b) ≡ print_step (F.Binary o (print_expr a) (print_expr b))
print-Binary o a b = ap print_expr (sym (rolls-Binary o a b))
    ∙ fold-roll-Expr (List Word) (List Word) print_step print_element_step (F.Binary o a b)

pub form-Binary : (o : BinaryOperator) (a : Expr) (b : Expr)
    → form (Binary o a b) ≡ form_step (F.Binary o (form a) (form b))
form-Binary o a b = ap form (sym (rolls-Binary o a b))
    ∙ fold-roll-Expr Form Bool form_step element_form_step (F.Binary o a b)

pub print-element : (n : List ℕ) (x : Expr)
    → print_element (element n x) ≡ print_element_step (record { field = n; value = print_expr x })
print-element n x = fold-roll-Element (List Word) (List Word) print_step print_element_step
    (record { field = n; value = x })

pub form-element : (n : List ℕ) (x : Expr) → element_form (element n x) ≡ (form x).good
form-element n x = fold-roll-Element Form Bool form_step element_form_step (record { field = n; value = x })

-- an induction over expressions, by their kinds
module _ (P : Expr → Type 0) (Q : Element → Type 0)
    (on_Integer : (digits : List ℕ) → P (Integer digits))
    (on_Text : (bytes : List ℕ) → P (Text bytes))
    (on_Name : (n : List ℕ) → P (Name n))
    (on_Parens : (a : Expr) → P a → P (Parens a))
    (on_StructLiteral : (n : List ℕ) (xs : List ((d : Element) × Q d)) → P (StructLiteral n (map (λ p. p.0) xs)))
    (on_SyncLiteral : (n : List ℕ) → P (SyncLiteral n))
    (on_SliceLiteral : (t : TypeExpr) (xs : List ((e : Expr) × P e)) → P (SliceLiteral t (map (λ p. p.0) xs)))
    (on_EmptyLiteral : P EmptyLiteral)
    (on_Make : (t : TypeExpr) → P (Make t))
    (on_MakeSized : (t : TypeExpr) (a : Expr) → P a → P (MakeSized t a))
    (on_New : (n : List ℕ) → P (New n))
    (on_NewSync : (n : List ℕ) → P (NewSync n))
    (on_Selector : (a : Expr) (n : List ℕ) → P a → P (Selector a n))
    (on_Index : (a : Expr) (b : Expr) → P a → P b → P (Index a b))
    (on_Call : (a : Expr) (xs : List ((e : Expr) × P e)) → P a → P (Call a (map (λ p. p.0) xs)))
    (on_Unary : (o : UnaryOperator) (a : Expr) → P a → P (Unary o a))
    (on_Binary : (o : BinaryOperator) (a : Expr) (b : Expr) → P a → P b → P (Binary o a b))
    (on_element : (n : List ℕ) (a : Expr) → P a → Q (element n a)) where
  at : (y : Expr-F ((e : Expr) × P e) ((d : Element) × Q d))
      → P (roll-Expr (map-Expr ((e : Expr) × P e) ((d : Element) × Q d) Expr Element (λ p. p.0) (λ p. p.0) y))
  at (F.Integer digits) = subst P (sym (rolls-Integer digits)) (on_Integer digits)
  at (F.Text bytes) = subst P (sym (rolls-Text bytes)) (on_Text bytes)
  at (F.Name n) = subst P (sym (rolls-Name n)) (on_Name n)
  at (F.Parens a) = subst P (sym (rolls-Parens a.0)) (on_Parens a.0 a.1)
  at (F.StructLiteral n xs) = subst P (sym (rolls-StructLiteral n (map (λ p. p.0) xs))) (on_StructLiteral n xs)
  at (F.SyncLiteral n) = subst P (sym (rolls-SyncLiteral n)) (on_SyncLiteral n)
  at (F.SliceLiteral t xs) = subst P (sym (rolls-SliceLiteral t (map (λ p. p.0) xs))) (on_SliceLiteral t xs)
  at F.EmptyLiteral = subst P (sym rolls-EmptyLiteral) on_EmptyLiteral
  at (F.Make t) = subst P (sym (rolls-Make t)) (on_Make t)
  at (F.MakeSized t a) = subst P (sym (rolls-MakeSized t a.0)) (on_MakeSized t a.0 a.1)
  at (F.New n) = subst P (sym (rolls-New n)) (on_New n)
  at (F.NewSync n) = subst P (sym (rolls-NewSync n)) (on_NewSync n)
  at (F.Selector a n) = subst P (sym (rolls-Selector a.0 n)) (on_Selector a.0 n a.1)
  at (F.Index a b) = subst P (sym (rolls-Index a.0 b.0)) (on_Index a.0 b.0 a.1 b.1)
  at (F.Call a xs) = subst P (sym (rolls-Call a.0 (map (λ p. p.0) xs))) (on_Call a.0 xs a.1)
  at (F.Unary o a) = subst P (sym (rolls-Unary o a.0)) (on_Unary o a.0 a.1)
  at (F.Binary o a b) = subst P (sym (rolls-Binary o a.0 b.0)) (on_Binary o a.0 b.0 a.1 b.1)

  pub each : (e : Expr) → P e
  each = ind-Expr P Q (λ x y is. subst (λ z. P (roll-Expr z)) is (at y))
      (λ x y is. subst (λ z. Q (roll-Element z)) is (on_element y.field y.value.0 y.value.1))
