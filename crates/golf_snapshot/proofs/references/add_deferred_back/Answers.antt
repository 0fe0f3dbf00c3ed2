use Rattle.std.proofs.Common.{refl, arith, ◌∙◌, ap, ◌++◌}
use Rattle.golf_snapshot.proofs.Gathering.{one-back, past-end, ValuesNodes, DeferredNodes, deferred-cons}
use Rattle.golf_snapshot.proofs.references.add_deferred_back.Goals as goal

pub loop-at-init : goal.loop-at-init
loop-at-init c = past-end c.args.nodes.now (DeferredNodes c.args.heap.now.objects) c.args.deferred.now _ refl
    (omega arith)

pub loop-at-preserved : goal.loop-at-preserved
loop-at-preserved c =
    let objects = c.args.heap.now.objects in
    one-back (λ d. ValuesNodes objects d.arguments) (DeferredNodes objects) refl
    (deferred-cons objects) c.args.nodes.now c.loop-at.nodes c.add_values.new.nodes c.args.deferred.now c.loop-at.at
    c.index-deferred-at.result (omega (arith, c.loop-at-test.true))
    (omega (arith, c.loop-at.auto.at)) c.loop-at.invariant
    (c.in_ok-add_values.ensures ∙ ap (λ vs. c.loop-at.nodes ++ ValuesNodes objects vs) c.as_slice.ensures)
