use Rattle.std.proofs.Common.{◌≡◌, ◌+◌, ◌*◌, drop, length}
use Rattle.std.specs.Prelude.{flat_map}
use Rattle.golf_syntax_trees.specs.declared.expressions.Expr.{size-Expr}
use Rattle.golf_code_of.specs.Texts.{expr_texts}
use Rattle.golf_code_of.proofs.TextEquations.{element_texts}
use Rattle.golf_code_texts.specs.AddedTexts.{with_texts}
use Rattle.golf_code_texts.specs.Spines.{RisingTexts}
use Rattle.golf_code_texts.proofs.expressions.+walking.Given as goal

abbrev pub invariant-exprs-loop-x : goal.invariant-exprs-loop-x
invariant-exprs-loop-x l = with_texts l.table (flat_map expr_texts (drop l.x-index l.xs)) ≡ with_texts l.fn.table
    (flat_map expr_texts l.xs)

abbrev pub invariant-elements-loop-x : goal.invariant-elements-loop-x
invariant-elements-loop-x l = with_texts l.table (flat_map element_texts (drop l.x-index l.xs)) ≡ with_texts l.fn.table
    (flat_map element_texts l.xs)

-- what waits is still to be added
abbrev pub invariant-expr-loop-node : goal.invariant-expr-loop-node
invariant-expr-loop-node l = RisingTexts l.fn.e l.fn.table l.waiting l.table

abbrev pub decreases-expr-loop-node : goal.decreases-expr-loop-node
decreases-expr-loop-node l = length l.waiting

abbrev pub decreases-whole : goal.decreases-whole
decreases-whole l = 8 * size-Expr l.e.now

abbrev pub decreases-rest : goal.decreases-rest
decreases-rest l = 8 * size-Expr l.e.now

abbrev pub decreases-expr : goal.decreases-expr
decreases-expr l = 8 * size-Expr l.e.now + 1

abbrev pub decreases-exprs : goal.decreases-exprs
decreases-exprs l = 8 * goal.size-exprs l + 2

abbrev pub decreases-elements : goal.decreases-elements
decreases-elements l = 8 * goal.size-elements l + 2
