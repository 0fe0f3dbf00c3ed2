use Rattle.std.proofs.Common.{refl, ◌∙◌, ap, ◌++◌, ◌∷◌, []}
use Rattle.golf_theory.specs.Maps.{rank}
use Rattle.golf_snapshot.proofs.Gathering.{one-more, QueueNodes}
use Rattle.golf_snapshot.proofs.goroutines.add_queue.Goals as goal

pub loop-queued-preserved : goal.loop-queued-preserved
loop-queued-preserved c =
    let objects = c.args.heap.now.objects in
    one-more (λ q. rank q.object.0 objects ∷ []) (QueueNodes objects) refl
    (λ q qs. refl) c.args.nodes.now c.loop-queued.nodes c.push.new.self c.args.queue.now c.loop-queued.queued-index
    _ c.loop-queued-test.true c.loop-queued.invariant
    (c.in_ok-push.ensures.ok ∙ ap (λ r. c.loop-queued.nodes ++ r ∷ []) c.rank.ensures)
