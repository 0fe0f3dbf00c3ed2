use Rattle.std.proofs.Common.{refl, ◌∙◌, ap, ◌++◌, ◌∷◌, [], get_or}
use Rattle.golf_snapshot.proofs.Gathering.{one-more, WaitNodes, WaitsNodes, waits-cons, wait-nodes}
use Rattle.golf_snapshot.proofs.references.add_waits.Goals as goal

pub loop-wait-preserved : goal.loop-wait-preserved
loop-wait-preserved c =
    let objects = c.args.heap.now.objects in
    one-more (WaitNodes objects) (WaitsNodes objects) refl
    (waits-cons objects) c.args.nodes.now c.loop-wait.nodes c.add_value.new.nodes c.args.waits.now
    c.loop-wait.wait-index _ c.loop-wait-test.true c.loop-wait.invariant
    (wait-nodes objects (get_or c.args.waits.now c.loop-wait.wait-index _) c.loop-wait.nodes c.push.new.self
    c.add_value.new.nodes (c.in_ok-push.ensures.ok ∙ ap (λ r. c.loop-wait.nodes ++ r ∷ []) c.rank.ensures)
    c.in_ok-add_value.ensures)
