use Rattle.std.proofs.Common.{◌<◌, length, refl, sym, ◌∙◌, ap, arith}
use Rattle.golf_reclaim.proofs.Flags.{either-more, either-all, either-long}
use Rattle.golf_reclaim.proofs.markings.retained.Goals as goal

pub loop-node-preserved : goal.loop-node-preserved
loop-node-preserved c =
    let within : c.loop-node.node < length c.args.marked.now = omega (arith, c.nodes-node-end.ensures.count) in
    either-more c.args.marked.now c.args.graph.now.finalised c.loop-node.node _ within c.finalised.ensures refl
    c.loop-node.invariant c.in_ok-push.ensures.ok

pub returns-clause-flags : goal.returns-clause-flags
returns-clause-flags c =
    let counts = c.nodes-node-end.ensures in
    either-all c.args.marked.now c.args.graph.now.finalised c.loop-node.node _ (omega (arith, counts.count))
    (omega (arith, counts.count, counts.in_range.flagged)) c.loop-node.invariant

pub returns-clause-length : goal.returns-clause-length
returns-clause-length c =
    ap length (returns-clause-flags c) ∙ either-long c.args.marked.now c.args.graph.now.finalised
    (c.requires ∙ sym c.nodes-node-end.ensures.in_range.flagged) ∙ c.requires
