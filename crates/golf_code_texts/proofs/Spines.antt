-- The texts of an expression are those of its left operand, and then those of the rest.
-- For: `expr`, src/expressions.rt; specs/Spines.antt
-- By: cases of an expression; induction over those that wait
use Rattle.std.proofs.Common.{◌≡◌, ◌≤◌, List, [], ◌∷◌, ◌++◌, sym, ap, ◌∙◌, append-nil}
use Rattle.std.specs.Prelude.{Some, flat_map}
use Rattle.std.specs.Borrow.{Bor}
use Rattle.golf_syntax_trees.specs.declared.expressions.Expr.{Expr, out-Expr, size-Expr}
use Rattle.golf_syntax_trees.specs.declared.expressions.Element.{Element}
use Rattle.golf_syntax_trees.specs.declared.expressions.Expr.TheOpen.{Expr-F}
use Rattle.golf_syntax_trees.specs.declared.expressions.Expr.TheOpen as F
use Rattle.golf_syntax_trees.specs.declared.expressions.Expr.TheFolds.{fold_out-Expr, fold-Element, map-Expr}
use Rattle.golf_syntax_trees.specs.Spines.{left_of, left_step, shown, IsSpine, AreNoLarger, risen}
use Rattle.golf_syntax_trees.proofs.Spines.{along, up, no_deeper}
use Rattle.golf_code_of.specs.Table.{Texts}
use Rattle.golf_code_of.specs.Texts.{expr_texts, expr_texts_step, element_texts_step}
use Rattle.golf_code_texts.specs.AddedTexts.{with_texts}
use Rattle.golf_code_texts.specs.Spines.{rest_texts, rest_texts_step, raised, RisingTexts}
use Rattle.golf_code_texts.proofs.Walks.{with_more, joined_map}

abbrev texts_layer : Expr-F Expr Element → Texts
texts_layer y = expr_texts_step (map-Expr Expr Element Texts Texts expr_texts
    (fold-Element Texts Texts expr_texts_step element_texts_step) y)

layer : (y : Expr-F Expr Element) (left : Expr) → left_step y ≡ Some left → texts_layer y ≡ expr_texts left
    ++ rest_texts_step y
layer (F.Integer digits) left p = absurd (cc)
layer (F.Text bytes) left p = absurd (cc)
layer (F.Name n) left p = absurd (cc)
layer (F.Parens e) left p = absurd (cc)
layer (F.StructLiteral n xs) left p = absurd (cc)
layer (F.SyncLiteral n) left p = absurd (cc)
layer (F.SliceLiteral t xs) left p = absurd (cc)
layer F.EmptyLiteral left p = absurd (cc)
layer (F.Make t) left p = absurd (cc)
layer (F.MakeSized t e) left p = absurd (cc)
layer (F.New n) left p = absurd (cc)
layer (F.NewSync n) left p = absurd (cc)
layer (F.Unary o e) left p = absurd (cc)
layer (F.Selector e n) left p = let same : e ≡ left = cc in ap expr_texts same ∙ sym (append-nil (expr_texts left))
layer (F.Index a i) left p = let same : a ≡ left = cc in ap (λ z. expr_texts z ++ expr_texts i) same
layer (F.Call f xs) left p = let same : f ≡ left = cc in ap (λ ts. expr_texts f ++ ts) (joined_map expr_texts xs)
    ∙ ap (λ z. expr_texts z ++ flat_map expr_texts xs) same
layer (F.Binary o a b) left p = let same : a ≡ left = cc in ap (λ z. expr_texts z ++ expr_texts b) same

splits : (e left : Expr) → left_of e ≡ Some left → expr_texts e ≡ expr_texts left ++ rest_texts e
unfolding left_of rest_texts expr_texts
splits e left p = fold_out-Expr Texts Texts expr_texts_step element_texts_step e ∙ layer (out-Expr e) left p

module _ (e : Expr) (old : Texts) where
  -- the texts of the innermost one are added
  pub starts : (ws : List (Bor Expr)) (inner : Expr) (new : Texts) → IsSpine left_of e (shown ws) inner
      → AreNoLarger size-Expr (size-Expr e) (shown ws) → new ≡ with_texts old (expr_texts inner)
      → RisingTexts e old ws new
  starts ws inner new spine within adds = record {
    whole = ap (risen raised (shown ws)) adds
        ∙ along left_of (λ z. with_texts old (expr_texts z)) raised
        (λ z left has. ap (with_texts old) (splits z left has) ∙ with_more old (expr_texts left) (rest_texts z)) e
        (shown ws) inner spine;
    within = within;
  }

  -- nothing waits any more
  pub ends : (ws : List (Bor Expr)) (new : Texts) → RisingTexts e old ws new → ws ≡ []
      → new ≡ with_texts old (expr_texts e)
  ends ws new r none = sym (ap (λ vs. risen raised (shown vs) new) none) ∙ r.whole

  module _ (ws vs : List (Bor Expr)) (b : Bor Expr) (new : Texts) (r : RisingTexts e old ws new)
      (last : ws ≡ vs ++ b ∷ []) where
    pub rest_smaller : size-Expr b.now ≤ size-Expr e
    rest_smaller = (no_deeper ws vs b last size-Expr (size-Expr e) r.within).1

    -- the texts after the left operand of the next one outwards are added
    pub rises : (newer : Texts) → newer ≡ with_texts new (rest_texts b.now) → RisingTexts e old vs newer
    rises newer adds = record {
      whole = ap (risen raised (shown vs)) adds ∙ (sym (up ws vs b last raised new) ∙ r.whole);
      within = (no_deeper ws vs b last size-Expr (size-Expr e) r.within).0;
    }
