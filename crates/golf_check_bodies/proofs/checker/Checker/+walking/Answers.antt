use Rattle.std.proofs.Common.{◌≡◌, rules, arith, map, sym, ap, ◌∙◌}
use Rattle.golf_syntax_trees.specs.declared.statements.Stmt.{Stmt}
use Rattle.golf_syntax_trees.specs.declared.statements.Stmt.TheVariants as st
use Rattle.golf_check_bodies.proofs.Wholes.{select_tells}
use Rattle.golf_check_types.specs.Statements.{then, in_order, communication, breaking, walk}
use Rattle.golf_check_bodies.proofs.Blocks.{passed_both, counted_block}
use Rattle.golf_check_bodies.proofs.Branches.{branches, branch_refused}
use Rattle.golf_syntax_trees.proofs.Elses.{behind, shorter}
use Rattle.golf_check_bodies.proofs.checker.Checker.+walking.Goals as goal

pub statement-returns-in-Select : goal.statement-returns-in-Select
statement-returns-in-Select t c =
    select_tells c.select_statement.result c.args.stmt.now c.args.self.now c.select_statement.new.self
    (record {
      line = c.in-Select.line;
      clauses = c.in-Select.clauses;
      slice = c.as_slice-in-Select.result.now;
      is = c.in-Select.is;
      slice_is = c.as_slice-in-Select.ensures;
    })
    c.select_statement.ensures

pub otherwise-returns-in_err-then_branch : goal.otherwise-returns-in_err-then_branch
otherwise-returns-in_err-then_branch t c =
    let v = c.branches in
    let i = c.in-IfElse in
    let all = branch_refused c.in_err-then_branch.field-0.0 c.args.otherwise.now v.last.now i.field-4
    c.args.self.now.scope v.self.scope c.begin.new.scope c.args.self.now.facts v.self.facts v.marks i.line i.first
    i.test c.get.result.now i.body c.as_slice.result.now v.invariant.walks i.is c.get.ensures c.as_slice.ensures
    c.in_ok-mark.ensures.scope c.in_err-then_branch.ensures in
    search (rules, all)

pub otherwise-branches-preserved : goal.otherwise-branches-preserved
otherwise-branches-preserved t c =
    let v = c.branches in
    let i = c.in-IfElse in
    let next : Stmt = c.behind_else-last.result.now in
    let same : next ≡ i.field-4 = c.behind_else-last.ensures.is
    ∙ behind v.last.now i.line i.first i.test i.body i.field-4 i.is in
    let less = shorter v.last.now i.line i.first i.test i.body i.field-4 _ _ i.is c.behind_else-last.ensures.smaller in
    record {
      walks = branches c.args.otherwise.now v.last.now next c.args.self.now.scope v.self.scope c.begin.new.scope
          c.then_branch.new.self.scope c.args.self.now.facts v.self.facts c.then_branch.new.self.facts v.marks
          c.push.new.self c.in_ok-mark.mark i.line i.first i.test c.get.result.now i.body c.as_slice.result.now
          v.invariant.walks (i.is ∙ ap (λ (z : Stmt). st.IfElse i.line i.first i.test i.body z) (sym same))
          c.get.ensures c.as_slice.ensures c.in_ok-mark.ensures.scope c.in_ok-mark.ensures.mark
          c.in_ok-push.ensures.ok c.in_ok-then_branch.ensures.0 c.in_ok-then_branch.ensures.1.0
          c.in_ok-then_branch.ensures.1.1;
      smaller = omega (arith, less, v.invariant.smaller);
    }

pub case-returns : goal.case-returns
case-returns t c =
    let a = c.args in
    counted_block (then (communication a.self.now.line a.names_line a.first.now)
    (breaking (in_order (map walk a.body.now)))) a.self.now.scope c.begin.new.scope c.clause_body.new.self.scope
    c.end.new.scope a.self.now.facts c.push.new.self c.clause_body.new.self.facts c.count_part.new.facts
    c.in_ok-mark.mark c.len-at.result
    c.in_ok-mark.ensures.scope c.in_ok-mark.ensures.mark c.len-at.ensures c.in_ok-push.ensures.ok
    (passed_both (communication a.self.now.line a.names_line a.first.now)
    (breaking (in_order (map walk a.body.now))) c.begin.new.scope c.communication.new.self.scope
    c.clause_body.new.self.scope c.push.new.self c.communication.new.self.facts c.clause_body.new.self.facts
    c.in_ok-communication.ensures c.in_ok-clause_body.ensures)
    c.in_ok-end.ensures c.count_part.ensures

pub default_clause-returns : goal.default_clause-returns
default_clause-returns t c =
    let a = c.args in
    counted_block (breaking (in_order (map walk a.body.now))) a.self.now.scope c.begin.new.scope
    c.clause_body.new.self.scope c.end.new.scope a.self.now.facts c.push.new.self c.clause_body.new.self.facts
    c.count_part.new.facts c.in_ok-mark.mark c.len-at.result
    c.in_ok-mark.ensures.scope c.in_ok-mark.ensures.mark c.len-at.ensures c.in_ok-push.ensures.ok
    c.in_ok-clause_body.ensures c.in_ok-end.ensures c.count_part.ensures
