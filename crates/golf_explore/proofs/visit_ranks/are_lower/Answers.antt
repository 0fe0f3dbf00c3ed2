use Rattle.std.proofs.Common.{List, ◌<◌, length}
use Rattle.std.proofs.lemmas.Option.{slice_get-get_or}
use Rattle.golf_explore.specs.declared.visits.Edge.{Edge}
use Rattle.golf_explore.proofs.Falling.{lower-more}
use Rattle.golf_explore.proofs.visit_ranks.are_lower.Goals as goal

pub loop-edge-preserved : goal.loop-edge-preserved
loop-edge-preserved c =
    let edges : List Edge = c.args.edges.now in
    let i = c.loop-edge.edge-index in
    let within : i < length edges = c.loop-edge-test.true in
    lower-more c.args.ranks.now c.args.rank edges i _ (slice_get-get_or edges i _ within) c.loop-edge.invariant
    (c.is_lower.ensures c.if-not-is_lower.false)
