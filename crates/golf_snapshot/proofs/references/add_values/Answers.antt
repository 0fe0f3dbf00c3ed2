use Rattle.std.proofs.Common.{refl}
use Rattle.golf_snapshot.proofs.Gathering.{one-more, ValueNodes, ValuesNodes, values-cons}
use Rattle.golf_snapshot.proofs.references.add_values.Goals as goal

pub loop-value-preserved : goal.loop-value-preserved
loop-value-preserved c =
    let objects = c.args.heap.now.objects in
    one-more (ValueNodes objects) (ValuesNodes objects) refl
    (values-cons objects) c.args.nodes.now c.loop-value.nodes c.add_value.new.nodes c.args.values.now
    c.loop-value.value-index _ c.loop-value-test.true c.loop-value.invariant c.in_ok-add_value.ensures
