use Rattle.std.proofs.Common.{refl, arith}
use Rattle.golf_snapshot.proofs.Gathering.{one-back, past-end, ValueNodes, ValuesNodes, values-cons}
use Rattle.golf_snapshot.proofs.references.add_values_back.Goals as goal

pub loop-at-init : goal.loop-at-init
loop-at-init c = past-end c.args.nodes.now (ValuesNodes c.args.heap.now.objects) c.args.values.now _ refl (omega arith)

pub loop-at-preserved : goal.loop-at-preserved
loop-at-preserved c =
    let objects = c.args.heap.now.objects in
    one-back (ValueNodes objects) (ValuesNodes objects) refl
    (values-cons objects) c.args.nodes.now c.loop-at.nodes c.add_value.new.nodes c.args.values.now c.loop-at.at _
    (omega (arith, c.loop-at-test.true)) (omega (arith, c.loop-at.auto.at)) c.loop-at.invariant
    c.in_ok-add_value.ensures
