use Rattle.std.proofs.Common.{ap}
use Rattle.golf_heap.specs.Objects.{NumberedObjects}
use Rattle.golf_snapshot.proofs.InRange.{parts-made}
use Rattle.golf_snapshot.proofs.graph.parts_of.Goals as goal

pub returns-clause-parts : goal.returns-clause-parts
returns-clause-parts c =
    parts-made c.args.state.now c.heap-heap.result.now.objects c.in_ok-numbers.field-0 c.in_ok-children.field-0
    c.in_ok-finalised.field-0 c.args.roots c.args.sleepers
    (ap (λ (h : NumberedObjects). h.objects) c.heap-heap.ensures.objects) c.in_ok-numbers.ensures
    c.in_ok-children.ensures
    c.in_ok-finalised.ensures
