use Rattle.golf_heap.proofs.Gathering.{Rises-keyed}
use Rattle.golf_heap.proofs.Finding.{found-at, found-none, never-empty}
use Rattle.golf_heap.proofs.heap.Heap.get.Goals as goal

pub key_of-requires : goal.key_of-requires
key_of-requires c = rw c.as_slice.ensures.value
    (Rises-keyed c.self.inside.slots 1 c.self.inside.places.items c.self.invariant.numbers.rises)

pub returns-in_err-key : goal.returns-in_err-key
returns-in_err-key c = rw (c.from_residual.ensures, ← c.self.view_is)
    (found-none c.self.inside.slots c.self.inside.places.items c.args.id.0
    (rw c.as_slice.ensures.value at c.in_err-key.ensures))

pub returns-in_err-slot : goal.returns-in_err-slot
returns-in_err-slot c = absurd (never-empty c.self.inside.slots c.self.inside.places.items c.args.id.0 c.in_ok-key.key
    c.self.invariant.held (rw c.as_slice.ensures.value at c.in_ok-key.ensures) c.in_err-slot.ensures)

pub returns : goal.returns
returns c = rw (← c.self.view_is) (found-at c.self.inside.slots c.self.inside.places.items c.args.id.0 c.in_ok-key.key
    c.in_ok-slot.slot.now (rw c.as_slice.ensures.value at c.in_ok-key.ensures) c.in_ok-slot.ensures)
