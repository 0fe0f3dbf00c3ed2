use Rattle.std.proofs.Common.{arith}
use Rattle.golf_snapshot.specs.Parts.{number_of}
use Rattle.golf_snapshot.proofs.Stepping.{entry-of-key, map-next, map-done}
use Rattle.golf_snapshot.proofs.nodes.numbers.Goals as goal

pub loop-rank-preserved : goal.loop-rank-preserved
loop-rank-preserved c =
    let objects = c.args.heap.now.objects in
    let e = entry-of-key objects c.loop-rank.rank c.at.result.0 c.at.ensures in
    map-next number_of objects c.loop-rank.rank
    (c.at.result.0, e.0) c.loop-rank.numbers c.push.new.self e.1 c.loop-rank.invariant c.in_ok-push.ensures.ok

pub returns : goal.returns
returns c = map-done number_of c.args.heap.now.objects c.loop-rank.rank c.loop-rank.numbers
    (omega arith) c.loop-rank.invariant
