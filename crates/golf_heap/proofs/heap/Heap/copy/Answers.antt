use Rattle.std.proofs.Common.{List, sym, ap, subst}
use Rattle.golf_theory.specs.Maps.{Rises}
use Rattle.golf_heap.specs.declared.places.ObjectKey.{ObjectKey}
use Rattle.golf_heap.specs.Kept.{keyed}
use Rattle.golf_heap.specs.Objects.{NumberedObjects}
use Rattle.golf_heap.proofs.Gathering.{Rises-keyed}
use Rattle.golf_heap.proofs.heap.Heap.copy.Goals as goal

pub append_copies-requires : goal.append_copies-requires
append_copies-requires c = rw (c.new-copy.ensures, c.as_slice.ensures.value)
    (Rises-keyed c.self.inside.slots 1 c.self.inside.places.items c.self.invariant.numbers.rises)
