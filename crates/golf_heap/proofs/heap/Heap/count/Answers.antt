use Rattle.std.proofs.Common.{◌+◌, arith}
use Rattle.golf_heap.specs.Kept.{gathered}
use Rattle.golf_theory.proofs.Ranks.{few}
use Rattle.golf_heap.proofs.Gathering.{length-gathered}
use Rattle.golf_heap.proofs.heap.Heap.count.Goals as goal

pub overflow_cast-result : goal.overflow_cast-result
overflow_cast-result c =
    let h = c.self.inside in
    let l = few 1 (h.last + 1) (gathered h.slots h.places.items)
    (omega arith) c.self.invariant.numbers.rises c.self.invariant.numbers.within in
    omega (arith, c.len.ensures, l, length-gathered h.slots h.places.items, h.places.ok.0)

pub returns-clause-count : goal.returns-clause-count
returns-clause-count c = rw (← c.self.view_is)
    (omega (
      arith,
      c.len.ensures,
      length-gathered c.self.inside.slots c.self.inside.places.items,
      c.self.inside.places.ok.0,
    ))
