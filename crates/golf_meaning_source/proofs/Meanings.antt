-- What a meaning takes an expression for is what the checker takes it for; and what an element of a literal means.
-- For: `meant`, specs/ExpressionMeaning.antt; `judge`, golf_check_types/specs/Judgments.antt
-- By: the steps of both, since the meaning carries along what the checker takes an expression for
use Rattle.std.proofs.Common.{◌≡◌, refl}
use Rattle.golf_syntax_trees.specs.declared.expressions.Expr.{Expr, roll-Expr}
use Rattle.golf_syntax_trees.specs.declared.expressions.Element.{Element}
use Rattle.golf_syntax_trees.specs.declared.expressions.Expr.TheOpen.{Expr-F}
use Rattle.golf_syntax_trees.specs.declared.expressions.Expr.TheFolds.{fold-Element, fold-roll-Expr, map-Expr}
use Rattle.golf_syntax_trees.proofs.ExpressionInduction.{fold-element, carried}
use Rattle.golf_check_types.specs.Judgments.{Judge, Put, judge, judge_step, element_step}
use Rattle.golf_code_of.specs.declared.tables.Tables.{Tables}
use Rattle.golf_meaning_source.specs.ExpressionMeaning.{Meant, MeantPut, put_judge, meant, meant_step}
use Rattle.golf_meaning_source.specs.ExpressionMeaning.{element_meant_step}
use Rattle.golf_meaning_source.specs.Operations.{Taking}

module _ (taking : Taking) where
  pub agree : (t : Tables) (e : Expr) → (meant taking t e).judge ≡ judge e
  unfolding meant judge
  agree t = carried Meant MeantPut (meant_step taking t) element_meant_step Judge Put judge_step element_step
      (λ x. x.judge) put_judge (λ y. refl) (λ y. refl)

  -- an element of a struct literal
  abbrev pub meant_put : Tables → Element → MeantPut
  meant_put t x = record { name = x.field; value = meant taking t x.value }

  abbrev pub element_meant : Tables → Element → MeantPut
  element_meant t = fold-Element Meant MeantPut (meant_step taking t) element_meant_step

  pub element-meant-is : (t : Tables) (x : Element) → element_meant t x ≡ meant_put t x
  unfolding meant
  element-meant-is t = fold-element Meant MeantPut (meant_step taking t) element_meant_step

  -- one layer of an expression
  abbrev pub meant_layer : Tables → Expr-F Expr Element → Meant
  meant_layer t y = meant_step taking t (map-Expr Expr Element Meant MeantPut (meant taking t) (element_meant t) y)

  pub meant-rolls : (t : Tables) (y : Expr-F Expr Element) → meant taking t (roll-Expr y) ≡ meant_layer t y
  unfolding meant
  meant-rolls t = fold-roll-Expr Meant MeantPut (meant_step taking t) element_meant_step
