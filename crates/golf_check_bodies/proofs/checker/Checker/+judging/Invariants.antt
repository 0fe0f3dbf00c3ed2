use Rattle.std.proofs.Common.{◌≡◌, ◌++◌, ◌+◌, ◌*◌, max, map, drop, length}
use Rattle.std.specs.Prelude.{flat_map}
use Rattle.golf_syntax_trees.specs.declared.expressions.Expr.{size-Expr}
use Rattle.golf_check_types.specs.Expressions.{given_by, used, facts_of, put_facts}
use Rattle.golf_check_types.specs.Judgments.{judge_at, value_at}
use Rattle.golf_check_bodies.specs.Spines.{RisingJudgment}
use Rattle.golf_check_bodies.specs.CheckerClauses.{with_facts}
use Rattle.golf_check_bodies.proofs.checker.Checker.+judging.Given as goal

abbrev pub invariant-all_given-loop-e : goal.invariant-all_given-loop-e
invariant-all_given-loop-e l =
    let c = l.fn.self in
    let all = map (judge_at c.line c.scope) l.es in
    let rest = map (judge_at c.line c.scope) (drop l.e-index l.es) in
    record {
      line : l.self.line ≡ c.line;
      scope : l.self.scope ≡ c.scope;
      faults : flat_map (used c.line) rest ≡ flat_map (used c.line) all;
      values : l.values ++ map given_by rest ≡ map given_by all;
      facts : with_facts l.self (flat_map facts_of rest) ≡ with_facts c (flat_map facts_of all);
    }

abbrev pub invariant-all_put-loop-e : goal.invariant-all_put-loop-e
invariant-all_put-loop-e l =
    let c = l.fn.self in
    let all = map (value_at c.line c.scope) l.elements in
    let left = drop l.e-index l.elements in
    let rest = map (value_at c.line c.scope) left in
    let puts = put_facts c.scope.file l.base in
    record {
      line : l.self.line ≡ c.line;
      scope : l.self.scope ≡ c.scope;
      faults : flat_map (used c.line) rest ≡ flat_map (used c.line) all;
      values : l.values ++ map given_by rest ≡ map given_by all;
      facts : with_facts l.self (puts (map (λ e. e.field) left) rest) ≡ with_facts c
          (puts (map (λ e. e.field) l.elements) all);
    }

-- what waits goes on with what was found
abbrev pub invariant-expression-loop-node : goal.invariant-expression-loop-node
invariant-expression-loop-node l = record {
  stays : l.self ≡ record l.fn.self { facts = l.self.facts };
  rising : RisingJudgment l.fn.self.line l.fn.self.scope l.fn.e l.fn.self.facts l.waiting l.operand l.at l.self.facts;
}

abbrev pub decreases-expression-loop-node : goal.decreases-expression-loop-node
decreases-expression-loop-node l = length l.waiting

abbrev pub decreases-after_left : goal.decreases-after_left
decreases-after_left l = 16 * size-Expr l.e.now

abbrev pub decreases-innermost : goal.decreases-innermost
decreases-innermost l = 16 * size-Expr l.e.now

abbrev pub decreases-expression : goal.decreases-expression
decreases-expression l = 16 * size-Expr l.e.now + 1

abbrev pub decreases-given : goal.decreases-given
decreases-given l = 16 * size-Expr l.e.now + 2

abbrev pub decreases-name_or_value : goal.decreases-name_or_value
decreases-name_or_value l = 16 * size-Expr l.e.now + 2

abbrev pub decreases-all_given : goal.decreases-all_given
decreases-all_given l = 16 * goal.size-all_given l + 3

abbrev pub decreases-all_put : goal.decreases-all_put
decreases-all_put l = 16 * goal.size-all_put l + 4

abbrev pub decreases-put : goal.decreases-put
decreases-put l = 16 * goal.size-put l + 3

abbrev pub decreases-composite_literal : goal.decreases-composite_literal
decreases-composite_literal l = 16 * goal.size-composite_literal l + 5

abbrev pub decreases-slice_literal : goal.decreases-slice_literal
decreases-slice_literal l = 16 * goal.size-slice_literal l + 4

abbrev pub decreases-make_sized : goal.decreases-make_sized
decreases-make_sized l = 16 * size-Expr l.e.now + 3

abbrev pub decreases-unary : goal.decreases-unary
decreases-unary l = 16 * size-Expr l.e.now + 3

abbrev pub decreases-index : goal.decreases-index
decreases-index l = 16 * size-Expr l.i.now + 3

abbrev pub decreases-binary : goal.decreases-binary
decreases-binary l = 16 * size-Expr l.b.now + 3

abbrev pub decreases-plain_call : goal.decreases-plain_call
decreases-plain_call l = 16 * goal.size-plain_call l + 4

abbrev pub decreases-finaliser_with : goal.decreases-finaliser_with
decreases-finaliser_with l = 16 * max (goal.size-finaliser_with l) (max (size-Expr l.x.now) (size-Expr l.y.now)) + 4

abbrev pub decreases-finaliser_call : goal.decreases-finaliser_call
decreases-finaliser_call l = 16 * goal.size-finaliser_call l + 5

abbrev pub decreases-called : goal.decreases-called
decreases-called l = 16 * goal.size-called l + 6

abbrev pub decreases-call : goal.decreases-call
decreases-call l = 16 * goal.size-call l + 7
