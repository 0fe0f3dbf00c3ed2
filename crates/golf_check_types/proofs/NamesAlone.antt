-- What an expression is depends on the names that are known, and on nothing else of its scope.
-- For: `judge`, specs/Judgments.antt; `write`, specs/Written.antt
-- By: induction over the tree of an expression, and over the tree of a written type
use Rattle.std.proofs.Common.{◌≡◌, ℕ, Bool, List, [], ◌∷◌, map, Option, refl, sym, ap, ◌∙◌, subst}
use Rattle.golf_syntax_trees.specs.declared.types.TypeExpr.{TypeExpr, roll-TypeExpr}
use Rattle.golf_syntax_trees.specs.declared.types.TypeExpr.TheOpen as TF
use Rattle.golf_syntax_trees.specs.declared.types.TypeExpr.TheFolds.{fold-roll-TypeExpr, map-TypeExpr}
use Rattle.golf_syntax_trees.specs.declared.expressions.Expr.{Expr, roll-Expr}
use Rattle.golf_syntax_trees.specs.declared.expressions.Element.{Element}
use Rattle.golf_syntax_trees.specs.declared.expressions.Expr.TheOpen as F
use Rattle.golf_syntax_trees.specs.declared.expressions.Expr.TheFolds.{fold-Element, fold-roll-Expr, map-Expr}
use Rattle.golf_syntax_trees.proofs.TypeInduction.{TypeLayer, bare_type, every-type}
use Rattle.golf_syntax_trees.proofs.ExpressionInduction.{KnownExpr, KnownElement, bare_exprs, bare_elements, ExprLayer}
use Rattle.golf_syntax_trees.proofs.ExpressionInduction.{bare_expr, every-expr, fold-element}
use Rattle.golf_check_types.specs.declared.types.Layer.TheVariants as layer
use Rattle.golf_check_types.specs.declared.types.GoType.{GoType}
use Rattle.golf_check_types.specs.declared.scopes.Scope.{Scope}
use Rattle.golf_check_types.specs.Types.{with_layer}
use Rattle.golf_check_types.specs.Scopes.{meaning}
use Rattle.golf_check_types.specs.Written.{WriteType, write, write_step, behind_layer, pointer_to}
use Rattle.golf_check_types.specs.Expressions.{struct_literal, slice_literal, made, made_sized, selector, unary_judged}
use Rattle.golf_check_types.specs.Expressions.{binary_judged, index_judged, in_parens}
use Rattle.golf_check_types.specs.Calls.{call_judged}
use Rattle.golf_check_types.specs.Judgments.{Judge, Put, judge, judge_step, element_step}

-- the same names, elsewhere
abbrev pub elsewhere : Scope → ℕ → Option GoType → Bool → Bool → ℕ → Scope
elsewhere s d o b k n = record s { depth = d; result = o; breaks = b; loops = k; next = n }

module _ (d : ℕ) (o : Option GoType) (b k : Bool) (n : ℕ) where
  abbrev there : Scope → Scope
  there s = elsewhere s d o b k n

  -- written types

  abbrev W : TypeExpr → Type 0
  W x = (l : ℕ) (s : Scope) → write x l (there s) ≡ write x l s

  write-at : (y : TypeLayer W) (l : ℕ) (s : Scope)
      → write_step (map-TypeExpr TypeExpr WriteType write (bare_type W y)) l (there s) ≡ write_step
      (map-TypeExpr TypeExpr WriteType write (bare_type W y)) l s
  unfolding meaning
  write-at (TF.Slice x) l s = ap (behind_layer layer.Slice) (x.1 l s)
  write-at (TF.Chan x) l s = ap (behind_layer layer.Chan) (x.1 l s)
  write-at (TF.SendChan x) l s = ap (behind_layer layer.SendChan) (x.1 l s)
  write-at (TF.ReceiveChan x) l s = ap (behind_layer layer.ReceiveChan) (x.1 l s)
  write-at _ l s = refl

  write-rolled : (y : TypeLayer W) → W (roll-TypeExpr (bare_type W y))
  unfolding write
  write-rolled y l s = subst (λ (w : WriteType). w l (there s) ≡ w l s)
      (sym (fold-roll-TypeExpr WriteType write_step (bare_type W y))) (write-at y l s)

  write-same : (x : TypeExpr) → W x
  write-same = every-type W write-rolled

  -- expressions

  abbrev P : Expr → Type 0
  P e = (l : ℕ) (s : Scope) → judge e l (there s) ≡ judge e l s

  abbrev element_judge : Element → Put
  element_judge = fold-Element Judge Put judge_step element_step

  abbrev judged : ExprLayer P → Judge
  judged y = judge_step (map-Expr Expr Element Judge Put judge element_judge (bare_expr P y))

  all-same : (l : ℕ) (s : Scope) (xs : List (KnownExpr P))
      → map (λ (j : Judge). j l (there s)) (map judge (bare_exprs P xs)) ≡ map (λ (j : Judge). j l s)
      (map judge (bare_exprs P xs))
  all-same l s [] = refl
  all-same l s (x ∷ xs) = ap (λ j. j ∷ map (λ (j : Judge). j l (there s)) (map judge (bare_exprs P xs))) (x.1 l s)
      ∙ ap (λ js. judge x.0 l s ∷ js) (all-same l s xs)

  value-same : (x : KnownElement P) (l : ℕ) (s : Scope)
      → (element_judge x.0).judge l (there s) ≡ (element_judge x.0).judge l s
  unfolding judge
  value-same x l s = subst (λ (p : Put). p.judge l (there s) ≡ p.judge l s)
      (sym (fold-element Judge Put judge_step element_step x.0)) (x.1 l s)

  puts-same : (l : ℕ) (s : Scope) (xs : List (KnownElement P))
      → map (λ (p : Put). p.judge l (there s)) (map element_judge (bare_elements P xs)) ≡ map (λ (p : Put). p.judge l s)
      (map element_judge (bare_elements P xs))
  puts-same l s [] = refl
  puts-same l s (x ∷ xs) = ap (λ j. j ∷ map (λ (p : Put). p.judge l (there s)) (map element_judge (bare_elements P xs)))
      (value-same x l s) ∙ ap (λ js. (element_judge x.0).judge l s ∷ js) (puts-same l s xs)

  at : (y : ExprLayer P) (l : ℕ) (s : Scope) → judged y l (there s) ≡ judged y l s
  unfolding meaning
  at (F.Integer digits) l s = refl
  at (F.Text bytes) l s = refl
  at (F.Name x) l s = refl
  at (F.Parens e) l s = ap in_parens (e.1 l s)
  at (F.StructLiteral x xs) l s = ap (struct_literal l s.file (pointer_to (meaning s x))
      (map (λ (p : Put). p.name) (map element_judge (bare_elements P xs)))) (puts-same l s xs)
  at (F.SyncLiteral x) l s = refl
  at (F.SliceLiteral t xs) l s =
      ap (λ w. slice_literal l w (with_layer layer.Slice w.type)
      (map (λ (j : Judge). j l (there s)) (map judge (bare_exprs P xs)))) (write-same t l s)
      ∙ ap (slice_literal l (write t l s) (with_layer layer.Slice (write t l s).type)) (all-same l s xs)
  at F.EmptyLiteral l s = refl
  at (F.Make t) l s = ap (made l) (write-same t l s)
  at (F.MakeSized t e) l s = ap (λ w. made_sized l w (judge e.0 l (there s))) (write-same t l s)
      ∙ ap (made_sized l (write t l s)) (e.1 l s)
  at (F.New x) l s = refl
  at (F.NewSync x) l s = refl
  at (F.Selector e x) l s = ap (selector l s x) (e.1 l s)
  at (F.Index a i) l s = ap (λ j. index_judged l j (judge i.0 l (there s))) (a.1 l s)
      ∙ ap (index_judged l (judge a.0 l s)) (i.1 l s)
  at (F.Call f xs) l s = ap (λ j. call_judged l s j (map (λ (j : Judge). j l (there s)) (map judge (bare_exprs P xs))))
      (f.1 l s) ∙ ap (call_judged l s (judge f.0 l s)) (all-same l s xs)
  at (F.Unary u e) l s = ap (unary_judged l s u) (e.1 l s)
  at (F.Binary u x y) l s = ap (λ j. binary_judged l u j (judge y.0 l (there s))) (x.1 l s)
      ∙ ap (binary_judged l u (judge x.0 l s)) (y.1 l s)

  rolled : (y : ExprLayer P) → P (roll-Expr (bare_expr P y))
  unfolding judge
  rolled y l s = subst (λ (j : Judge). j l (there s) ≡ j l s)
      (sym (fold-roll-Expr Judge Put judge_step element_step (bare_expr P y))) (at y l s)

  pub judged-by-names : (e : Expr) (l : ℕ) (s : Scope) → judge e l (elsewhere s d o b k n) ≡ judge e l s
  judged-by-names = every-expr P rolled
