-- The heap after an object that it lent was changed.
use Rattle.std.specs.Prelude.{ℕ}
use Rattle.std.specs.Borrow.{Lends, MutBor, Fml}
use Rattle.golf_data.specs.declared.value.Object.{Object}
use Rattle.golf_data.specs.contracts.value.Object.{the_row as object_row}
use Rattle.golf_heap.specs.contracts.heap.Heap.{the_row}
use Rattle.golf_heap.specs.Objects.{NumberedObjects, replaced}

-- at the end of the loan the heap has the object's last value at this number
abbrev pub LendsObject : MutBor NumberedObjects → ℕ → MutBor Object → Fml
LendsObject h o r = Lends the_row object_row h r (λ x. replaced o x h.now)
