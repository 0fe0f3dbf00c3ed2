-- What an expression is by the form of its left operand.
-- For: `form`, src/forms.rt; specs/Spines.antt
-- By: cases of an expression; induction over those that wait
use Rattle.std.proofs.Common.{◌≡◌, ℕ, List, [], ◌∷◌, ◌++◌, map, refl, sym, ap, ◌∙◌, subst}
use Rattle.std.specs.Prelude.{Some}
use Rattle.std.specs.Borrow.{Bor}
use Rattle.golf_syntax_trees.specs.declared.expressions.Expr.{Expr, out-Expr}
use Rattle.golf_syntax_trees.specs.declared.expressions.Element.{Element}
use Rattle.golf_syntax_trees.specs.declared.expressions.Expr.TheOpen.{Expr-F}
use Rattle.golf_syntax_trees.specs.declared.expressions.Expr.TheOpen as F
use Rattle.golf_syntax_trees.specs.declared.expressions.Expr.TheFolds.{fold_out-Expr, fold-Element, map-Expr}
use Rattle.golf_syntax_trees.specs.Spines.{left_of, left_step, shown, IsSpine, risen}
use Rattle.golf_syntax_trees.proofs.Spines.{along, up}
use Rattle.golf_check_types.specs.declared.operands.Operand.{Operand}
use Rattle.golf_check_types.specs.declared.operands.Operand.TheVariants as operand
use Rattle.golf_check_types.specs.declared.scopes.Scope.{Scope}
use Rattle.golf_check_types.specs.Types.{element}
use Rattle.golf_check_types.specs.Expressions.{Judged}
use Rattle.golf_check_types.specs.Judgments.{Judge, Put, judge, judge_step, element_step}
use Rattle.golf_check_names.specs.Forms.{without_late, called_form}
use Rattle.golf_check_names.specs.Spines.{formed, formed_step, raised}
use Rattle.golf_check_names.proofs.Laws.{same_given, same_selected, called_form_late, same_called}

abbrev judged_layer : Expr-F Expr Element → Judge
judged_layer y = judge_step (map-Expr Expr Element Judge Put judge (fold-Element Judge Put judge_step element_step) y)

module _ (l : ℕ) (s : Scope) where
  layer : (y : Expr-F Expr Element) (left : Expr) (m : Operand) → left_step y ≡ Some left
      → without_late m ≡ without_late (judge left l s).meaning
      → without_late (formed_step y l s m) ≡ without_late (judged_layer y l s).meaning
  layer (F.Integer digits) left m p h = absurd (cc)
  layer (F.Text bytes) left m p h = absurd (cc)
  layer (F.Name n) left m p h = absurd (cc)
  layer (F.Parens e) left m p h = absurd (cc)
  layer (F.StructLiteral n xs) left m p h = absurd (cc)
  layer (F.SyncLiteral n) left m p h = absurd (cc)
  layer (F.SliceLiteral t xs) left m p h = absurd (cc)
  layer F.EmptyLiteral left m p h = absurd (cc)
  layer (F.Make t) left m p h = absurd (cc)
  layer (F.MakeSized t e) left m p h = absurd (cc)
  layer (F.New n) left m p h = absurd (cc)
  layer (F.NewSync n) left m p h = absurd (cc)
  layer (F.Unary o e) left m p h = absurd (cc)
  layer (F.Binary o a b) left m p h = refl
  layer (F.Selector e n) left m p h = let same : left ≡ e =
      cc in ap without_late (same_selected l s.file n m (judge e l s).meaning
      (subst (λ z. without_late m ≡ without_late (judge z l s).meaning) same h))
  layer (F.Index a i) left m p h = let same : left ≡ a =
      cc in ap (λ v. without_late (operand.Element (element v)))
      (same_given m (judge a l s).meaning (subst (λ z. without_late m ≡ without_late (judge z l s).meaning) same h))
  layer (F.Call f xs) left m p h = let same : left ≡ f =
      cc in same_called l s m (judge f l s).meaning (map (λ j. j l s) (map judge xs))
      (subst (λ z. without_late m ≡ without_late (judge z l s).meaning) same h)

  splits : (e left : Expr) (m : Operand) → left_of e ≡ Some left
      → without_late m ≡ without_late (judge left l s).meaning
      → without_late (formed e l s m) ≡ without_late (judge e l s).meaning
  unfolding left_of formed judge
  splits e left m p h = layer (out-Expr e) left m p h
      ∙ ap (λ (j : Judge). without_late (j l s).meaning) (sym (fold_out-Expr Judge Put judge_step element_step e))

  -- the form alone tells the form
  step-alike : (y : Expr-F Expr Element) (m k : Operand) → without_late m ≡ without_late k
      → without_late (formed_step y l s m) ≡ without_late (formed_step y l s k)
  step-alike (F.Selector e n) m k h = ap without_late (same_selected l s.file n m k h)
  step-alike (F.Index a i) m k h = ap (λ v. without_late (operand.Element (element v))) (same_given m k h)
  step-alike (F.Call f xs) m k h = ap without_late
      (sym (called_form_late s.file m) ∙ (ap (called_form s.file) h ∙ called_form_late s.file k))
  step-alike (F.Binary o a b) m k h = refl
  step-alike _ m k h = h

  formed-alike : (e : Expr) (m k : Operand) → without_late m ≡ without_late k
      → without_late (formed e l s m) ≡ without_late (formed e l s k)
  unfolding formed
  formed-alike e m k h = step-alike (out-Expr e) m k h

  twice : (m : Operand) → without_late (without_late m) ≡ without_late m
  twice (operand.Nothing late) = refl
  twice m = refl

  -- the form of the left operand tells the form
  form-splits : (e left : Expr) → left_of e ≡ Some left
      → without_late (judge e l s).meaning ≡ raised l s e (without_late (judge left l s).meaning)
  form-splits e left p = let m = (judge left l s).meaning in sym
      (formed-alike e (without_late m) m (twice m) ∙ splits e left m p refl)

  module _ (e : Expr) where
    -- the form of the innermost one is found
    pub starts : (ws : List (Bor Expr)) (inner : Expr) (m : Operand) → IsSpine left_of e (shown ws) inner
        → without_late m ≡ without_late (judge inner l s).meaning
        → risen (raised l s) (shown ws) (without_late m) ≡ without_late (judge e l s).meaning
    starts ws inner m spine h = ap (risen (raised l s) (shown ws)) h
        ∙ along left_of (λ z. without_late (judge z l s).meaning) (raised l s) form-splits e (shown ws) inner spine

    -- one step up
    pub rises : (ws vs : List (Bor Expr)) (b : Bor Expr) (left m : Operand)
        → risen (raised l s) (shown ws) (without_late left) ≡ without_late (judge e l s).meaning → ws ≡ vs ++ b ∷ []
        → without_late m ≡ without_late (formed b.now l s left)
        → risen (raised l s) (shown vs) (without_late m) ≡ without_late (judge e l s).meaning
    rises ws vs b left m r last h =
        ap (risen (raised l s) (shown vs)) (h ∙ sym (formed-alike b.now (without_late left) left (twice left)))
        ∙ (sym (up ws vs b last (raised l s) (without_late left)) ∙ r)
