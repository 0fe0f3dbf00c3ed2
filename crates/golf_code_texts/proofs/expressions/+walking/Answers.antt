use Rattle.std.proofs.Common.{arith}
use Rattle.golf_code_of.specs.Texts.{expr_texts}
use Rattle.golf_code_of.proofs.TextEquations.{element_texts}
use Rattle.golf_code_texts.proofs.Walks.{one_more, no_more}
use Rattle.golf_code_texts.proofs.Spines.{starts, ends, rises, rest_smaller}
use Rattle.golf_code_texts.proofs.expressions.+walking.Goals as goal

pub exprs-loop-x-preserved : goal.exprs-loop-x-preserved
exprs-loop-x-preserved t c =
    one_more expr_texts c.args.xs.now c.loop-x.x-index c.x-item.result c.loop-x.table c.expr.new.table _
    c.loop-x-test.true c.x-item.is c.in_ok-expr.ensures c.loop-x.invariant

pub exprs-returns : goal.exprs-returns
exprs-returns t c = no_more expr_texts c.args.xs.now c.loop-x.x-index c.loop-x.table _ c.loop-x-test.false
    c.loop-x.invariant

pub elements-loop-x-preserved : goal.elements-loop-x-preserved
elements-loop-x-preserved t c =
    one_more element_texts c.args.xs.now c.loop-x.x-index c.x-item.result c.loop-x.table c.expr.new.table _
    c.loop-x-test.true c.x-item.is c.in_ok-expr.ensures c.loop-x.invariant

pub elements-returns : goal.elements-returns
elements-returns t c = no_more element_texts c.args.xs.now c.loop-x.x-index c.loop-x.table _ c.loop-x-test.false
    c.loop-x.invariant

pub expr-loop-node-init : goal.expr-loop-node-init
expr-loop-node-init t c = starts c.args.e.now c.args.table.now c.in_ok-waiting.waiting c.in_ok-waiting.innermost.now
    c.whole.new.table c.in_ok-waiting.ensures.down c.in_ok-waiting.ensures.within c.in_ok-whole.ensures

pub expr-rest-requires : goal.expr-rest-requires
expr-rest-requires t c =
    let low = rest_smaller c.args.e.now c.args.table.now c.loop-node.waiting c.pop.new.self c.in-Some.node
    c.loop-node.table c.loop-node.invariant c.in-Some.ensures in
    (omega (arith, c.decreases, low), tt)

pub expr-loop-node-preserved : goal.expr-loop-node-preserved
expr-loop-node-preserved t c = rises c.args.e.now c.args.table.now c.loop-node.waiting c.pop.new.self c.in-Some.node
    c.loop-node.table c.loop-node.invariant c.in-Some.ensures c.rest.new.table c.in_ok-rest.ensures

pub expr-returns : goal.expr-returns
expr-returns t c = ends c.args.e.now c.args.table.now c.loop-node.waiting c.loop-node.table c.loop-node.invariant
    c.in_default.ensures.0
