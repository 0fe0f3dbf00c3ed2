use Rattle.std.proofs.Common.{◌≡◌, rules, arith, ◌-◌, [], ◌++◌, length, refl, ap, subst, ◌∙◌}
use Rattle.golf_check_types.specs.Faults.{StopsAt}
use Rattle.golf_check_types.specs.Expressions.{Judged}
use Rattle.golf_check_bodies.specs.declared.checker.Checker.{Checker}
use Rattle.golf_check_bodies.specs.Spines.{after, kept}
use Rattle.golf_check_bodies.proofs.Wholes.{slice_tells, struct_tells}
use Rattle.golf_check_bodies.proofs.Spines.{whole_refused, starts, rise_refused, rises, rise_smaller}
use Rattle.golf_check_bodies.proofs.checker.Checker.+judging.Goals as goal

pub innermost-returns-in-StructLiteral : goal.innermost-returns-in-StructLiteral
innermost-returns-in-StructLiteral t c =
    struct_tells c.composite_literal.result c.args.e.now c.args.self.now c.composite_literal.new.self
    c.in-StructLiteral.name c.as_slice-in-StructLiteral.result.now c.in-StructLiteral.elements
    c.as_slice-in-StructLiteral-2.result.now c.in-StructLiteral.is c.as_slice-in-StructLiteral.ensures
    c.as_slice-in-StructLiteral-2.ensures c.composite_literal.ensures

pub innermost-returns-in-SliceLiteral : goal.innermost-returns-in-SliceLiteral
innermost-returns-in-SliceLiteral t c =
    slice_tells c.slice_literal.result c.args.e.now c.args.self.now c.slice_literal.new.self c.in-SliceLiteral.t
    c.get-in-SliceLiteral.result.now c.in-SliceLiteral.es c.as_slice-in-SliceLiteral.result.now c.in-SliceLiteral.is
    c.get-in-SliceLiteral.ensures c.as_slice-in-SliceLiteral.ensures c.slice_literal.ensures

pub expression-returns-in_err-operand : goal.expression-returns-in_err-operand
expression-returns-in_err-operand t c =
    let all = whole_refused c.args.e.now c.args.self.now.facts c.args.self.now.line c.args.self.now.scope
    c.in_err-operand.field-0.0 c.in_ok-waiting.waiting c.in_ok-waiting.inner.now c.in_ok-waiting.ensures.down
    c.in_err-operand.ensures in
    search (rules, all)

pub expression-loop-node-init : goal.expression-loop-node-init
expression-loop-node-init t c =
    let told = ap (λ (k : Checker). k.facts) c.in_ok-operand.ensures.1.1 in
    record {
      stays = ap (λ (k : Checker). record k { facts = c.fill.new.facts }) c.in_ok-operand.ensures.1.1;
      rising = starts c.args.e.now c.args.self.now.facts c.args.self.now.line c.args.self.now.scope
          c.in_ok-waiting.waiting c.in_ok-waiting.inner.now c.keep.new.facts c.push.new.self c.innermost.new.self.facts
          c.fill.new.facts c.in_ok-operand.operand c.len-at.result
          (length c.innermost.new.self.facts - c.len-at.result - 1) c.in_ok-waiting.ensures.down
          c.in_ok-waiting.ensures.within (c.in_ok-keep.ensures
          ∙ ap (λ n. c.args.self.now.facts ++ kept n) c.len.ensures) c.len-at.ensures c.in_ok-push.ensures.ok
          c.in_ok-operand.ensures.0 c.in_ok-operand.ensures.1.0 told refl c.in_ok-fill.ensures;
    }

pub expression-after_left-requires : goal.expression-after_left-requires
expression-after_left-requires t c =
    let low = rise_smaller c.args.e.now c.args.self.now.facts c.args.self.now.line c.args.self.now.scope
    c.loop-node.waiting c.pop.new.self c.in-Some.node c.loop-node.operand c.loop-node.at c.loop-node.self.facts
    c.loop-node.invariant.rising c.in-Some.ensures in
    (omega (arith, c.decreases, low), tt)

pub expression-returns-in_err-operand-2 : goal.expression-returns-in_err-operand-2
expression-returns-in_err-operand-2 t c =
    let f = c.in_err-operand-2.field-0.0 in
    let left = c.loop-node.operand in
    let refused = subst (λ (k : Checker). StopsAt f (after c.in-Some.node.now k.line k.scope left).faults)
    c.loop-node.invariant.stays c.in_err-operand-2.ensures in
    let all = rise_refused c.args.e.now c.args.self.now.facts c.args.self.now.line c.args.self.now.scope
    c.loop-node.waiting c.pop.new.self c.in-Some.node left c.loop-node.at c.loop-node.self.facts
    c.loop-node.invariant.rising c.in-Some.ensures f refused in
    search (rules, all)

pub expression-loop-node-preserved : goal.expression-loop-node-preserved
expression-loop-node-preserved t c =
    let now = c.loop-node.self in
    let m = c.in_ok-operand-2.operand in
    let new = c.after_left.new.self in
    let answer = c.in_ok-operand-2.ensures in
    let judged : Checker → Judged = λ k. after c.in-Some.node.now k.line k.scope c.loop-node.operand in
    let told = subst (λ (k : Checker). ((judged k).faults ≡ [])
    × ((m ≡ (judged k).meaning) × (new.facts ≡ now.facts ++ (judged k).inner))) c.loop-node.invariant.stays
    (answer.0, (answer.1.0, ap (λ (k : Checker). k.facts) answer.1.1)) in
    record {
      stays = ap (λ (k : Checker). record k { facts = c.fill-in-Some.new.facts }) answer.1.1
          ∙ ap (λ (k : Checker). record k { facts = c.fill-in-Some.new.facts }) c.loop-node.invariant.stays;
      rising = rises c.args.e.now c.args.self.now.facts c.args.self.now.line c.args.self.now.scope c.loop-node.waiting
          c.pop.new.self c.in-Some.node c.loop-node.operand c.loop-node.at now.facts c.loop-node.invariant.rising
          c.in-Some.ensures m (c.loop-node.at - 1)
          (length new.facts - (c.loop-node.at - 1) - 1) new.facts c.fill-in-Some.new.facts refl told.0 told.1.0 told.1.1
          refl c.in_ok-fill-2.ensures;
    }
