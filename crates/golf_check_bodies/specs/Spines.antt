-- The judgment of an expression after its left operand, and the facts while expressions wait for their left operands.
use Rattle.std.specs.Prelude.{◌≡◌, ℕ, zero, suc, ◌+◌, ◌&&◌, List, [], ◌∷◌, ◌++◌, map, drop, length}
use Rattle.std.specs.Borrow.{Bor}
use Rattle.golf_syntax_trees.specs.declared.expressions.BinaryOperator.{BinaryOperator}
use Rattle.golf_syntax_trees.specs.declared.expressions.Expr.{Expr, out-Expr, size-Expr}
use Rattle.golf_syntax_trees.specs.declared.expressions.Element.{Element}
use Rattle.golf_syntax_trees.specs.declared.expressions.Expr.TheOpen.{Expr-F, Selector, Index, Call, Binary}
use Rattle.golf_syntax_trees.specs.Spines.{shown, AreNoLarger, risen}
use Rattle.golf_check_types.specs.declared.rules.TheConstants.{WRONG_OPERAND}
use Rattle.golf_check_types.specs.declared.types.Base.TheVariants as base
use Rattle.golf_check_types.specs.declared.facts.Fact.{Fact}
use Rattle.golf_check_types.specs.declared.facts.Fact.TheVariants as fact
use Rattle.golf_check_types.specs.declared.operands.Operand.{Operand}
use Rattle.golf_check_types.specs.declared.operands.Operand.TheVariants as operand
use Rattle.golf_check_types.specs.declared.scopes.Scope.{Scope}
use Rattle.golf_check_types.specs.Faults.{broken}
use Rattle.golf_check_types.specs.Types.{given, has_base, has_layer, is_slice, element}
use Rattle.golf_check_types.specs.Expressions.{Judged, facts_of, used, given_by, value, leaf, value_faults, name_faults}
use Rattle.golf_check_types.specs.Expressions.{selected_from, result_base, binary_fits}
use Rattle.golf_check_types.specs.Calls.{called_with}
use Rattle.golf_check_types.specs.Judgments.{judge, judge_at}

-- The judgment of an expression after a left operand with this meaning: its meaning, the rules that it breaks then, and
-- the facts of its other parts.

abbrev pub after_selector : ℕ → Scope → List ℕ → Operand → Judged
after_selector l s n m = leaf (selected_from l s.file n m).meaning (selected_from l s.file n m).faults

abbrev pub after_index : ℕ → Operand → Judged → Judged
after_index l m i = record {
  meaning = operand.Element (element (given m));
  faults = value_faults l m ++ (used l i ++ broken l WRONG_OPERAND
      (has_layer is_slice (given m) && has_base base.Int (given_by i)));
  inner = facts_of i;
}

abbrev pub after_call : ℕ → Scope → Operand → List Judged → Judged
after_call l s m xs = record {
  meaning = (called_with l s m xs).meaning;
  faults = name_faults l m ++ (called_with l s m xs).faults;
  inner = (called_with l s m xs).inner;
}

abbrev pub after_binary : ℕ → BinaryOperator → Operand → Judged → Judged
after_binary l o m y = record {
  meaning = value (result_base o);
  faults = value_faults l m ++ (used l y ++ broken l WRONG_OPERAND (binary_fits o (given m) (given_by y)));
  inner = facts_of y;
}

abbrev pub after_step : Expr-F Expr Element → ℕ → Scope → Operand → Judged
after_step (Selector e n) l s m = after_selector l s n m
after_step (Index a i) l s m = after_index l m (judge i l s)
after_step (Call f xs) l s m = after_call l s m (map (judge_at l s) xs)
after_step (Binary o a b) l s m = after_binary l o m (judge b l s)
after_step _ l s m = leaf m []

unfoldable pub after : Expr → ℕ → Scope → Operand → Judged
after e l s m = after_step (out-Expr e) l s m

-- the judgment of a left operand, joined with that of the rest
abbrev pub joined : Judged → Judged → Judged
joined x y = record { meaning = y.meaning; faults = x.faults ++ y.faults; inner = facts_of x ++ y.inner }

-- the judgment of an expression, from that of its left operand
abbrev pub raised : ℕ → Scope → Expr → Judged → Judged
raised l s e x = joined x (after e l s x.meaning)

-- the places that are kept for the facts of n expressions
abbrev pub kept : ℕ → List Fact
kept zero = []
kept (suc n) = kept n ++ fact.Part 0 ∷ []

-- the judgment of what was found; its fact is at this place, before those of its parts
abbrev pub standing : Operand → ℕ → List Fact → Judged
standing m at facts = record { meaning = m; faults = []; inner = drop (at + 1) facts }

-- These expressions wait for what was found. Its fact comes after the places that are kept for theirs.
abbrev pub RisingJudgment : ℕ → Scope → Expr → List Fact → List (Bor Expr) → Operand → ℕ → List Fact → Type 0
RisingJudgment l s e old ws m at new = record {
  whole : risen (raised l s) (shown ws) (standing m at new) ≡ judge e l s;
  facts : new ≡ (old ++ kept (length ws)) ++ facts_of (standing m at new);
  at : at ≡ length (old ++ kept (length ws));
  within : AreNoLarger size-Expr (size-Expr e) (shown ws);
}
