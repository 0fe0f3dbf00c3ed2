-- The texts of the parts of an expression after its left operand.
use Rattle.std.specs.Prelude.{◌≡◌, List, [], flat_map}
use Rattle.std.specs.Borrow.{Bor}
use Rattle.golf_syntax_trees.specs.declared.expressions.Expr.{Expr, out-Expr, size-Expr}
use Rattle.golf_syntax_trees.specs.declared.expressions.Element.{Element}
use Rattle.golf_syntax_trees.specs.declared.expressions.Expr.TheOpen.{Expr-F, Index, Call, Binary}
use Rattle.golf_syntax_trees.specs.Spines.{shown, AreNoLarger, risen}
use Rattle.golf_code_of.specs.Table.{Texts}
use Rattle.golf_code_of.specs.Texts.{expr_texts}
use Rattle.golf_code_texts.specs.AddedTexts.{with_texts}

abbrev pub rest_texts_step : Expr-F Expr Element → Texts
rest_texts_step (Index a i) = expr_texts i
rest_texts_step (Call f xs) = flat_map expr_texts xs
rest_texts_step (Binary o a b) = expr_texts b
rest_texts_step _ = []

-- the texts of the parts after the left operand
unfoldable pub rest_texts : Expr → Texts
rest_texts e = rest_texts_step (out-Expr e)

-- the table with the texts of an expression, if it has those of the left operand already
abbrev pub raised : Expr → Texts → Texts
raised e t = with_texts t (rest_texts e)

-- the texts of these expressions, without those of their left operands, are still to be added to the second table
abbrev pub RisingTexts : Expr → Texts → List (Bor Expr) → Texts → Type 0
RisingTexts e old ws new = record {
  whole : risen raised (shown ws) new ≡ with_texts old (expr_texts e);
  within : AreNoLarger size-Expr (size-Expr e) (shown ws);
}
