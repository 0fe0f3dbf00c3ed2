use Rattle.std.proofs.Common.{length, arith, ap}
use Rattle.golf_heap.specs.Objects.{NumberedObjects}
use Rattle.golf_heap.proofs.Gathering.{length-gathered}
use Rattle.golf_heap.proofs.Order.{key-at}
use Rattle.golf_heap.proofs.heap.Heap.at.Goals as goal

pub bounds-as_slice-rank : goal.bounds-as_slice-rank
bounds-as_slice-rank c = omega (
  arith,
  c.requires,
  ap (λ (h : NumberedObjects). length h.objects) c.self.view_is,
  length-gathered c.self.inside.slots c.self.inside.places.items,
  c.as_slice.ensures.len,
  ap length c.as_slice.ensures.value,
)

pub returns : goal.returns
returns c =
    rw (← c.self.view_is, c.as_slice.ensures.value)
    (key-at c.self.inside.slots c.self.inside.places.items c.args.rank (record { number = 0; key = 0 })
    (omega (
      arith,
      c.requires,
      ap (λ (h : NumberedObjects). length h.objects) c.self.view_is,
      length-gathered c.self.inside.slots c.self.inside.places.items,
    )))
