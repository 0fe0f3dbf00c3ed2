use Rattle.std.proofs.Common.{arith, drop, length, map, subst, ap, ◌∙◌}
use Rattle.golf_code_layout.specs.Piece.{Piece}
use Rattle.golf_code_of.specs.Calls.{finalising}
use Rattle.golf_code_facts.specs.Facts.{operand_in, next_is}
use Rattle.golf_code_facts.specs.Expressions.{taking, arguments}
use Rattle.golf_code_expressions.specs.WriterClauses.{Extends}
use Rattle.golf_code_expressions.proofs.Wholes.{skipped_over, call_is, slice_is, none_written}
use Rattle.golf_code_expressions.proofs.Spines.{call_sets, rises, follow_smaller}
use Rattle.golf_code_expressions.proofs.expressions.+writing.Goals as goal

pub whole-returns-in-SliceLiteral : goal.whole-returns-in-SliceLiteral
whole-returns-in-SliceLiteral t c =
    let w = c.args.writer.now in
    subst (λ (p : Piece). Extends c.slice_at.result p w c.slice_at.new.writer)
    (slice_is w.draft.tables.now c.args.line c.args.fact.now w.facts c.args.e.now _ c.in-SliceLiteral.es
    c.as_slice-in-SliceLiteral.result.now c.operand_of-operand.result.now c.in-SliceLiteral.is
    c.as_slice-in-SliceLiteral.ensures c.operand_of-operand.ensures)
    c.slice_at.ensures

pub whole-returns-in-Call : goal.whole-returns-in-Call
whole-returns-in-Call t c =
    let w = c.args.writer.now in
    let u = w.draft.tables.now in
    let ys = c.as_slice-in-Call.result.now in
    subst (λ (p : Piece). Extends c.finalising_at.result p w c.finalising_at.new.writer)
    (ap (λ fs. finalising c.args.line (arguments c.args.line (map (taking u) ys) fs)) c.skip.ensures
    ∙ call_is u c.args.line c.args.fact.now w.facts c.args.e.now c.in-Call.field-0 c.in-Call.xs ys c.in-Call.is
    c.as_slice-in-Call.ensures (call_sets c.args.e.now c.in-Call.field-0 c.in-Call.xs (operand_in c.args.fact.now)
    (next_is w.facts) c.in-Call.is c.requires))
    (skipped_over c.finalising_at.result _ w c.finalising_at.new.writer c.skip.new.self c.finalising_at.ensures)

pub innermost_at-returns-in_default : goal.innermost_at-returns-in_default
innermost_at-returns-in_default t c = none_written c.args.line c.args.e.now c.args.writer.now
    c.in_default.ensures.none.0

pub expression-follow-requires : goal.expression-follow-requires
expression-follow-requires t c =
    let low = follow_smaller c.args.e.now c.args.writer.now c.args.line c.loop-node.waiting c.pop.new.self
    c.in-Some.node c.loop-node.writer.draft c.loop-node.invariant c.in-Some.ensures in
    (omega (arith, c.decreases, low), tt)

pub expression-loop-node-preserved : goal.expression-loop-node-preserved
expression-loop-node-preserved t c =
    rises c.args.e.now c.args.writer.now c.args.line c.loop-node.waiting c.pop.new.self c.in-Some.node
    c.loop-node.writer.draft c.loop-node.invariant c.in-Some.ensures c.from-writer.result c.follow.new.writer.draft
    (c.from-writer.ensures ∙ (ap (λ n. drop n c.copy-all.result) c.len.ensures
    ∙ ap (drop (length c.pop.new.self)) c.copy-all.ensures)) c.in_ok-follow.ensures
