use Rattle.std.proofs.Common.{refl, ◌∙◌, ap, ◌++◌, ◌∷◌, []}
use Rattle.golf_theory.specs.Maps.{rank}
use Rattle.golf_snapshot.proofs.Gathering.{one-more, WaitedNodes}
use Rattle.golf_snapshot.proofs.references.add_waited.Goals as goal

pub loop-wait-preserved : goal.loop-wait-preserved
loop-wait-preserved c =
    let objects = c.args.heap.now.objects in
    one-more (λ w. rank w.object.0 objects ∷ []) (WaitedNodes objects) refl
    (λ w ws. refl) c.args.nodes.now c.loop-wait.nodes c.push.new.self c.args.waits.now c.loop-wait.wait-index _
    c.loop-wait-test.true c.loop-wait.invariant
    (c.in_ok-push.ensures.ok ∙ ap (λ r. c.loop-wait.nodes ++ r ∷ []) c.rank.ensures)
